mod AnswerLemmas
mod CellLemmas
mod InputLemmas
mod NameLemmas
mod ObjectLemmas
mod StoreLemmas
mod WorldLemmas
