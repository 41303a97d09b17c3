pub mod ListLemmas
pub mod MarkLemmas
pub mod BlankLemmas
pub mod DigitLemmas
pub mod NumberLemmas
