pub mod Meaning
pub mod ReadAnswers
pub mod FaultLaws
pub mod TextLaws
pub mod TextRule
pub mod Widths
