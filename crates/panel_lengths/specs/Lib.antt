pub mod Runs
pub mod RunsLaws
pub mod LengthRows
pub mod LengthRowsLaws
pub mod WrittenLaws
