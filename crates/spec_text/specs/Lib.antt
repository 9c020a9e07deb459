pub mod Scalars
pub mod Syntax
