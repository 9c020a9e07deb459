pub mod Pairs
pub mod CreatesFrom
