-- How lists of scalars stand in memory.
pub mod Spread
