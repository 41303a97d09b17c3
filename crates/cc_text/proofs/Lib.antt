pub use Rattle.lay_profile.proofs as lay_profile
pub use Rattle.lay_profile.proofs.cc_compile as cc_compile
pub use Rattle.lay_profile.proofs.cc_compile.image_proof as image_proof
pub use Rattle.c_macro.proofs as c_macro
pub use Rattle.c_units.proofs as c_units
