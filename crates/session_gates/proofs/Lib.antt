pub mod CountedLaws
pub mod ErasedLaws
pub mod GatesLaws
pub mod LentLaws
