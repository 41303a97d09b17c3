mod Examples
pub mod Pushing
