pub mod EnvelopeChecks
pub mod EnvelopeChecksLaws
pub mod InsertFindings
pub mod InsertFindingsLaws
pub mod Found
pub mod FoundLaws
pub mod Ids
pub mod IdsLaws
