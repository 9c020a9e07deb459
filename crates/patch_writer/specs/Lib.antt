pub mod Set
pub mod SetLaws
pub mod Survey
pub mod RangeLaws
