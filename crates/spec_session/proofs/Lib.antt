pub mod BatchLaws
pub mod DiagnosticsLaws
pub mod ValidSessionLaws
