pub mod CreationLaws
