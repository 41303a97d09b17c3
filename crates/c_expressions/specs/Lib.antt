-- What the parts of the parser that read types and expressions take from the front of the tokens, and what they refuse.
pub mod Operators
pub mod Parses
pub mod Fronts
pub mod Parts
pub mod Yields
