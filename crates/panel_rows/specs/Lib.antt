pub mod Rows
pub mod RowsLaws
pub mod Lookup
