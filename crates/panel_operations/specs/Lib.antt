pub mod OperationChange
pub mod OperationLaws
