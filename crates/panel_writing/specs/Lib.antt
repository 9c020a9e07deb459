pub mod Writing
pub mod WritingLaws
pub mod StoredLaws
pub mod CopyLaws
