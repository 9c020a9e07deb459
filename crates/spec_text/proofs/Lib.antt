pub mod ExampleLaws
pub mod Rfc3629Laws
pub mod ScalarLaws
pub mod SequenceLaws
pub mod SplitLaws
pub mod SyntaxLaws
