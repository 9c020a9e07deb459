pub mod Filling
pub mod StoredValues
pub mod Copies
