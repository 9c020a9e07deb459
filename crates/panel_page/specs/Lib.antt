pub mod PageTable
pub mod PageTableLaws
pub mod Index
pub mod Answering
pub mod Shown
pub mod ShownLaws
