pub mod Upserts
pub mod Settings
