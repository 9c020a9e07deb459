pub mod Application
pub mod ApplicationLaws
