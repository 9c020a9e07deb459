pub mod FreeOrder
pub mod Grouping
pub mod Verdict
