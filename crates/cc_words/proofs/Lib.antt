pub mod AskedLemmas
pub mod BoundsLemmas
