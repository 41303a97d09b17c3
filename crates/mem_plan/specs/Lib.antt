-- Where the data of a program lies.
pub mod DataNeeds
pub mod Begins
pub mod Gathered
pub mod Search
pub mod Plan
pub mod Ranges
