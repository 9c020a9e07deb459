pub mod Whole
pub mod Numbers
pub mod Searching
