pub mod Session
pub mod Diagnostics
pub mod Lifecycle
pub mod Batch
pub mod ValidSession
