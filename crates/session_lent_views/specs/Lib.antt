pub mod Views
pub mod ViewsLaws
pub mod ShapeInstances
