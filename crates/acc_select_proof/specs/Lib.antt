-- The accesses of typed functions and word trees, and what the laws of selection say.
pub mod Listed
pub mod SourceAccesses
pub mod TreeAccesses
pub mod SourceSequences
pub mod OfWords
pub mod FitStatements
pub mod Selecting
