pub mod Answers
pub mod Survey
pub mod Judgement
pub mod SurveyLaws
pub mod WritingLaws
pub mod SetLaws
pub mod AnswersLaws
