pub mod Walk
pub mod HeadLaws
pub mod SetAnswers
