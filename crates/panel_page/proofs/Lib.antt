pub mod AnsweringLaws
pub mod IndexLaws
pub mod PlacesLent
