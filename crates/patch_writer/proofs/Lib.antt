-- Laws that belong to no one function.
mod Elements
mod Surveyed
mod Verdict
mod Judged
mod Passes
pub mod CallLaws
pub mod Progress
