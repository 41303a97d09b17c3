-- What stands beside what, in a run of a typed program and in that of its word tree.
pub mod Counted
pub mod Evaluated
pub mod Executed
pub mod Seats
pub mod Beside
pub mod Reaching
pub mod Surroundings
