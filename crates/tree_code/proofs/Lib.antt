-- What the proofs of word trees stand on, and examples.
pub mod Views
pub mod CountingLemmas
pub mod LoweredLemmas
pub mod KeptLemmas
pub mod WordsLemmas
pub mod SoundLemmas
pub mod CodeLemmas
pub mod Examples
