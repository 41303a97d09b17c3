pub use Rattle.acc_operations.proofs as acc_operations
mod Examples
mod EmittableUses
mod SelectedExamples
pub mod SelectionLemmas
pub mod RoutineLemmas
pub mod EmittableRuns
pub mod EmittableWords
pub mod EmittableOperations
pub mod EmittableForms
pub mod EmittableExpressions
pub mod EmittableStatements
pub mod EmittableReady
pub mod EmittablePrograms
pub mod EmittableProps
pub mod EmittableTruths
pub mod Views
pub mod AppendLemmas
pub mod ParameterLemmas
pub mod ArgumentLemmas
pub mod CodeLemmas
pub mod StatementLemmas
pub mod CellLemmas
pub mod EndLemmas
