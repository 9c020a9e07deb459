pub mod Gates
pub mod Lent
pub mod Seen
