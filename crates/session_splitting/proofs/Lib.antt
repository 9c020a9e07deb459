pub mod CallsLaws
pub mod Theorem
