pub mod LengthExamples
pub mod LengthPremises
pub mod LengthsAfter
pub mod LengthsLaws
