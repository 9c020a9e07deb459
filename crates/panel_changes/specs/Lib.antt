pub mod PlanMemory
pub mod PlanMemoryLaws
pub mod SetChanges
pub mod SetChangesLaws
