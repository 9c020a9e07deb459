-- Laws that belong to no one function.
pub mod PatchAnswers
pub mod ReadAt
mod Heads
pub mod Runs
