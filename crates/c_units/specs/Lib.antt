pub use Rattle.c_renaming.specs as c_renaming
pub use Rattle.c_renaming.specs.c_tree as c_tree
pub use Rattle.c_rules.specs as c_rules
pub use Rattle.c_lexer.specs as c_lexer
pub use Rattle.c_parser.specs as c_parser
pub mod Externs
pub mod Prefixes
pub mod Views
pub mod Statics
pub mod Files
pub mod PartFaults
pub mod Objects
pub mod Joining
pub mod Choices
