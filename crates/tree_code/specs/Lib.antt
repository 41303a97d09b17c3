-- Word trees, and those that typed programs become.
pub mod WordTree
pub mod Operations
pub mod WordView
pub mod ProgramView
pub mod WordTemporaries
pub mod OperandForms
pub mod ByteCount
pub mod Lowered
pub mod WordLabels
pub mod WordUses
pub mod WellFormedCode
pub mod WordHelpers
