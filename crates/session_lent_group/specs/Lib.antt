pub mod Sendings
pub mod LentGroups
pub mod SendingsLaws
pub mod LentGroupsLaws
