pub mod Script
pub mod Looks
pub mod Session
pub mod Standing
