-- Operations on words in accumulator code, and where words are found.
pub mod Constants
pub mod Words
pub mod Sums
pub mod Kinds
pub mod Arithmetic
pub mod Comparisons
pub mod Appended
