pub mod PageExamples
pub mod PageLaws
pub mod PagePremises
