pub mod CircleLaws
pub mod Fairness
pub mod FairnessInstances
pub mod NumberLaws
pub mod TurnExamples
pub mod TurnsLaws
