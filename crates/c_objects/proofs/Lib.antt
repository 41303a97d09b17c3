pub mod TypeWords
pub mod AgreementLemmas
pub mod CellsSoFar
