pub mod SetForLaws
pub mod ReadThenWritten
