pub mod Below
pub mod TableLaws
pub mod CharacterLaws
pub mod AsciiLaws
pub mod Reached
