pub mod AnswerLaws
pub mod CallLaws
pub mod Instances
pub mod Premises
pub mod StructLaws
pub mod Theorem
