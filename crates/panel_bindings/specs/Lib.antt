pub mod Change
pub mod RowChanges
pub mod ChangeLaws
