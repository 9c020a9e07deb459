pub mod Memory
pub mod Claim
pub mod Calls
