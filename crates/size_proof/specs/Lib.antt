-- What code weighs, and how many words it has.
pub use Rattle.emit_proof.specs as emit_proof
pub mod Sizes
