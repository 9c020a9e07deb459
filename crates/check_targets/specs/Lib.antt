pub mod Targets
pub mod Threes
pub mod TargetsLaws
pub mod Marks
pub mod MarksLaws
pub mod ToldLaws
