pub mod Parts
pub mod Numbers
pub mod Orders
pub mod Offsets
pub mod Changes
pub mod Moved
pub mod Searches
