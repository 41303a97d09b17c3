pub mod Marks
pub mod Keywords
