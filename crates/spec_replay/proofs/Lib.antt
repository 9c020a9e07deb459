pub mod HexLaws
pub mod ReplayExamples
pub mod ReplayLaws
