pub mod Classes
pub mod Characters
pub mod Answer
