pub mod EscapesLaws
pub mod ListingExamples
pub mod ListingLaws
pub mod RecordLaws
pub mod SplitLaws
pub mod UnmarkedLines
