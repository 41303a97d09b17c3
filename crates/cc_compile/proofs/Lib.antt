pub use Rattle.image_proof.proofs as image_proof
pub mod OneImage
mod LayoutLemmas
mod NameLemmas
pub mod PieceLemmas
mod MarkLemmas
mod CallLemmas
mod LinkLemmas
mod TranslationLemmas
mod AgreementLemmas
mod WalkLemmas
mod DirectLemmas
mod SourceJobs
pub mod OneFault
pub mod FaultLemmas
pub mod ImageNames
pub mod Promised
mod ApartLemmas
mod ApartExamples
pub mod LimitLemmas
