mod Examples
pub mod BodyLemmas
pub mod BoundLemmas
pub mod ApartLemmas
pub mod UniqueLemmas
pub mod GraphLemmas
pub mod SearchLemmas
