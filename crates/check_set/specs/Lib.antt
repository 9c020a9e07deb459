pub mod CheckAnswers
pub mod Listed
pub mod ListedLaws
