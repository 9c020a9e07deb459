pub mod LookupLaws
pub mod Nth
pub mod NthLaws
