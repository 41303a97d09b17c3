pub mod Commands
pub mod Asked
pub mod Bounds
pub mod Tables
