pub mod Parts
pub mod Lines
pub mod Words
mod Examples
