pub mod Examples
pub use Rattle.text_base.proofs.Numbers
pub mod LastLine
pub mod SequenceLines
pub mod Faults
pub mod Written
pub mod Exact
