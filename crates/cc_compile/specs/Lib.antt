pub use Rattle.c_lexer.specs as c_lexer
pub use Rattle.c_parser.specs as c_parser
pub use Rattle.c_rules.specs as c_rules
pub use Rattle.c_syntax.specs as c_syntax
pub use Rattle.c_tree.specs as c_tree
pub use Rattle.c25_link.specs as c25_link
pub use Rattle.frame_layouts.specs as frame_layouts
pub use Rattle.frame_layouts.specs.lay_cert as lay_cert
pub use Rattle.image_proof.specs as image_proof
pub use Rattle.image_proof.specs.frame_emit as frame_emit
pub use Rattle.image_proof.specs.tree_code_proof as tree_code_proof
pub mod Walked
pub mod Images
pub mod DataWords
pub mod Apart
pub mod TranslationFaults
pub mod Selections
pub mod PartFaults
pub mod SourceFaults
pub mod Compiles
pub mod Made
pub mod Limits
