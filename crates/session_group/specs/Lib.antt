pub mod Groups
pub mod GroupsLaws
pub mod SendingLaws
