pub use Rattle.emit_proof.proofs as emit_proof
pub mod Weighing
pub mod Operating
pub mod Branching
pub mod Forming
pub mod Storing
pub mod WeightExpressions
pub mod WeightStatements
pub mod Lowering
mod WeightExamples
pub mod Renumbered
pub mod Operators
pub mod NodeExpressions
pub mod Objects
pub mod Declarations
pub mod NodeStatements
pub mod Units
mod NodeExamples
pub mod Rows
pub mod Parts
pub mod Lists
pub mod Pieces
mod SizeExamples
