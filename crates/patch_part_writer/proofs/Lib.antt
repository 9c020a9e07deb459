-- Laws that belong to no one function.
mod Stored
pub mod Flags
pub mod PartsLaws
