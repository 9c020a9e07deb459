pub mod Examples
pub mod FreeOrderLaws
pub mod GroupingLaws
pub mod Premises
pub mod Rows
pub mod Runs
pub mod Theorem
pub mod VerdictLaws
