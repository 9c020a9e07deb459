pub mod Resolved
pub mod Plan
pub mod SetValues
pub mod PlanRows
pub mod NumberedRows
pub mod Sources
