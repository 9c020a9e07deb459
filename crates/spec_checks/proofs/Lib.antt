pub mod AnswerLaws
pub mod CheckExamples
pub mod CountLaws
pub mod FindingLaws
pub mod FindingsLaws
pub mod KindLaws
pub mod PartsLaws
pub mod RulesLaws
