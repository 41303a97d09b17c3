mod Examples
pub mod Members
mod Sums
mod Registers
mod ClosedCosts
pub mod Pairs
mod OneListCosts
mod Nodes
pub mod Bounds
mod Replayed
pub mod Arranged
pub mod Least
pub mod Cheapest
mod Visits
mod AnswerLemmas
pub mod Permuted
pub mod GreedyLists
pub mod StartLists
mod AnswerLists
mod CertifiedLeast
mod Sizes
mod SmallSearches
mod ExhaustedAnswers
