pub mod ScopeLemmas
pub mod BodyLemmas
