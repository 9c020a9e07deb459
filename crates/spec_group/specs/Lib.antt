pub mod Group
pub mod Singly
