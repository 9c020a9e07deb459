pub mod Answers
pub mod AnswersLaws
pub mod Checks
pub mod ChecksLaws
pub mod States
