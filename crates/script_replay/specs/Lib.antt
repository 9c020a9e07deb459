pub mod SetupLines
pub mod LineLaws
pub mod GroupLaws
pub mod AnswerBytes
