pub mod OperandsSoFar
pub mod CallForms
pub mod SoFar
pub mod ScopesKept
pub mod ParameterLemmas
pub mod FileScopeLemmas
