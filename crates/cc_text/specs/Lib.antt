pub use Rattle.lay_profile.specs as lay_profile
pub use Rattle.lay_profile.specs.cc_compile as cc_compile
pub use Rattle.lay_profile.specs.cc_compile.frame_emit as frame_emit
pub use Rattle.lay_profile.specs.cc_compile.frame_layouts as frame_layouts
pub use Rattle.lay_profile.specs.cc_compile.image_proof as image_proof
pub use Rattle.lay_profile.specs.cc_compile.tree_code_proof as tree_code_proof
pub use Rattle.c_macro.specs as c_macro
pub use Rattle.c_macro.specs.c_lexer as c_lexer
pub use Rattle.c_macro.specs.c_syntax as c_syntax
pub use Rattle.c_units.specs as c_units
pub mod SourceText
pub mod MacroText
pub mod UnitText
pub mod Refusals
