-- Runs: the instructions of operations of accumulator code that stand one behind another.
pub mod Places
pub mod Instructions
pub mod Steps
pub mod Moves
pub mod Runs
pub mod Right
pub mod Appended
