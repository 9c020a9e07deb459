pub mod Matches
pub mod Reading
pub mod StepsLaws
