pub mod BytesLaws
pub mod ListLaws
pub mod LookupLaws
pub mod OrderLaws
pub mod AnyLaws
