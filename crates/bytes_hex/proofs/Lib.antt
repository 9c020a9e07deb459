pub mod Digits
pub mod Pairs
pub mod Answers
