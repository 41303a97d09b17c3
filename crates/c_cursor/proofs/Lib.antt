pub mod TakesLemmas
pub mod Refusals
