pub mod Holds
pub mod HoldsLaws
pub mod Steps
pub mod StepsLaws
pub mod Batches
pub mod CommitLaws
