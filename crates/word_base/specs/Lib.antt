pub mod Name
pub mod Words
pub mod Ports
pub mod Outcome
pub mod Keeps
