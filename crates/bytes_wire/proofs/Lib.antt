-- Laws that belong to no one function.
pub mod Paste
pub mod Complement
pub mod PrefixLaws
pub mod ReadLaws
pub mod WriteLaws
