pub mod Read
pub mod Print
pub mod PrintLaws
