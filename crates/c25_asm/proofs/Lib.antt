pub mod CutLemmas
pub mod LineLemmas
pub mod NumberLemmas
pub mod NameLemmas
pub mod FitLemmas
pub mod StatementLemmas
pub mod LabelLemmas
pub mod WordLemmas
pub mod TextLemmas
pub mod SpellingLemmas
mod Examples
