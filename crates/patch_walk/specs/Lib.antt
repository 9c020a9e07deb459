pub mod Steps
pub mod SetReads
pub mod SetReadsLaws
pub mod CountLaws
