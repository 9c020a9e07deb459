pub mod Places
pub mod PlacesLaws
pub mod Answers
pub mod AnswersLaws
pub mod LinesLaws
