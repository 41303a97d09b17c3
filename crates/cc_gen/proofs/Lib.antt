mod Examples
pub mod Lines
pub mod Pushing
pub mod Short
