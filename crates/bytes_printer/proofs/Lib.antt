pub mod Signs
pub mod PrintsLaws
