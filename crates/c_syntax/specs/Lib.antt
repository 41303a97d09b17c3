-- A C source from its bytes to its tree: ISO 9899:1990 6.1 and the grammar of 6.3 to 6.7.
pub use Rattle.word_base.specs as word_base
pub mod FixedTexts
pub mod Constants
pub mod Spelling
pub mod Lexes
pub mod TokenSpellings
pub mod SyntaxTree
pub mod Grammar
pub mod Derives
pub mod Lookahead
pub mod Reads
pub mod Measures
pub mod Counts
pub mod Source
pub mod SyntaxView
pub mod FunctionNames
pub mod Values
pub mod Characters
pub mod Units
