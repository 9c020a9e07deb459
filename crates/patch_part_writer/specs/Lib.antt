pub mod Extent
pub mod ExtentLaws
pub mod Answer
pub mod Parts
