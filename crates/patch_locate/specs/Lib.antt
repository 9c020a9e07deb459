pub mod Answers
pub mod Fields
pub mod FieldsLaws
pub mod Positions
pub mod TextPositions
pub mod SetPositions
