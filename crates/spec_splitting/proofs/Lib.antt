pub mod Passing
pub mod Runs
pub mod Theorem
