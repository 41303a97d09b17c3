pub use Rattle.cc_text.proofs as cc_text
pub use Rattle.cc_text.proofs.lay_profile as lay_profile
pub use Rattle.cc_text.proofs.cc_compile as cc_compile
pub use Rattle.cc_text.proofs.image_proof as image_proof
pub use Rattle.cc_text.proofs.c_macro as c_macro
pub use Rattle.cc_text.proofs.c_units as c_units
pub mod PassedOn
pub mod ShelfLemmas
pub mod FetchLemmas
pub mod PutLemmas
pub mod StoreLemmas
