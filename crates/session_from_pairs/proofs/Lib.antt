-- Laws that belong to no one function.
pub mod Parts
pub mod CreatesFromLaws
pub mod PairsLaws
