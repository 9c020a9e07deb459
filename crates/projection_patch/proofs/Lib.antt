-- Laws that belong to no one function. The readers of patches and sets cite them too.
pub mod At
pub mod Answers
pub mod Texts
pub mod States
pub mod Places
