-- What laws of emitted code say: calls and rows, what is reached and known, the machine beside accumulator code, bodies.
pub mod Calls
pub mod Registers
pub mod Rows
pub mod Reaching
pub mod KnownAlike
pub mod Direct
pub mod Addressed
pub mod Standing
pub mod Sites
pub mod Accessing
pub mod Operations
pub mod Arrivals
pub mod Entries
pub mod Code
pub mod Bodies
