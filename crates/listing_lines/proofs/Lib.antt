pub mod Lines
pub mod ListingBytesLaws
pub mod Rows
pub mod TextBytes
