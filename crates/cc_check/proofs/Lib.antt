pub use Rattle.lay_cert.proofs as lay_cert
mod Examples
pub mod AddressLemmas
pub mod BlockLemmas
pub mod NumberLemmas
pub mod FindingLemmas
pub mod KeptLemmas
pub mod LineLemmas
pub mod Meanings
