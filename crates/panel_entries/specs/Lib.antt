pub mod EntryRows
pub mod EntryRowsLaws
pub mod Places
pub mod PlacesLaws
