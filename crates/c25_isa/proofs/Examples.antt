-- Words, steps and runs of the machine, computed; their expected values are from the instruction table itself.
pub mod States
pub mod Words
pub mod Loads
pub mod Stores
pub mod Constants
pub mod Jumps
pub mod Repeats
pub mod Traps
pub mod TrapOrder
pub mod Runs
