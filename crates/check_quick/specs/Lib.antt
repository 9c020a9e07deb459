pub mod Anchors
pub mod AnchorsLaws
pub mod Quick
pub mod QuickAnswers
pub mod QuickLaws
