pub use Rattle.cc_text.specs as cc_text
pub use Rattle.cc_text.specs.lay_profile as lay_profile
pub use Rattle.cc_text.specs.cc_compile as cc_compile
pub use Rattle.cc_text.specs.frame_emit as frame_emit
pub use Rattle.cc_text.specs.frame_layouts as frame_layouts
pub use Rattle.cc_text.specs.image_proof as image_proof
pub use Rattle.cc_text.specs.tree_code_proof as tree_code_proof
pub use Rattle.cc_text.specs.c_macro as c_macro
pub use Rattle.cc_text.specs.c_units as c_units
pub use Rattle.cc_text.specs.c_lexer as c_lexer
pub use Rattle.cc_text.specs.c_syntax as c_syntax
pub mod World
pub mod Puts
pub mod Fetches
pub mod Wants
pub mod Stores
