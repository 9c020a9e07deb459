pub mod Lines
pub mod Hex
pub mod Script
pub mod Answers
pub mod Reasons
pub mod Replay
