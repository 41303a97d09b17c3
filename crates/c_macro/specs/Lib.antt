pub use Rattle.c_syntax.specs as c_syntax
pub use Rattle.c_lexer.specs as c_lexer
pub mod Lines
pub mod Directives
pub mod Macros
pub mod Sections
pub mod Expands
pub mod Views
pub mod Expanding
