pub mod Sequences
pub mod Arrangements
pub mod Flat
