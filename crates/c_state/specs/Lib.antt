-- What is known at a point of a run, beside the definition of runs (docs/LANGUAGE.md, "Evaluation").
pub mod Values
pub mod Room
pub mod Objects
pub mod Stores
pub mod Inputs
pub mod Names
pub mod Worlds
pub mod Operands
