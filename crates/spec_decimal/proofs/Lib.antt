pub mod DigitLaws
pub mod DecimalLaws
pub mod ReadLaws
pub mod AlikeLaws
pub mod SignedLaws
