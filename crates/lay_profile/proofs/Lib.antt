pub use Rattle.cc_compile.proofs as cc_compile
mod Examples
pub mod Counts
pub mod Together
pub mod Weighings
mod SameLists
mod ShapeLemmas
pub mod Differ
mod FaultLemmas
pub mod Short
pub mod BuiltShapes
mod Recordeds
mod Profiling
mod Kept
pub mod OneProfile
