pub mod Finding
pub mod Target
pub mod PatchChecks
pub mod SetChecks
pub mod Findings
pub mod Answer
pub mod Rules
pub mod Opened
