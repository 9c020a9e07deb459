pub mod Decode
pub mod Print
pub mod PrintSizes
pub mod Flow
