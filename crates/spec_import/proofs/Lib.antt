pub mod CleanLaws
pub mod FormLaws
pub mod ImportInstances
pub mod ImportLaws
pub mod LineLaws
