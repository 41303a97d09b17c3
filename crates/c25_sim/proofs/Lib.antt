pub mod Inputs
pub mod Moves
pub mod Puts
pub mod Steps
