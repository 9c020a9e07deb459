pub mod Import
pub mod Clean
