pub mod Lists
pub mod Order
pub mod Bytes
pub mod Options
