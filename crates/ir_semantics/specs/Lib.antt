-- Runs of word trees and of accumulator code, on words at addresses, and what a translation keeps of them.
pub mod Parts
pub mod Outside
pub mod Meanings
pub mod TreeRun
pub mod AccRows
pub mod AccRun
pub mod WorkOutcomes
pub mod Keeps
pub mod Weights
pub mod SourceWeights
pub mod SourceWork
