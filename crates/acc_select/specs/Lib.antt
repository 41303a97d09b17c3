-- The accumulator code of word trees.
pub use Rattle.acc_operations.specs as acc_operations
pub mod Conditions
pub mod Forms
pub mod Selected
pub mod PartView
pub mod IsSelected
pub mod OperationWords
pub mod Ends
pub mod LocalObjects
