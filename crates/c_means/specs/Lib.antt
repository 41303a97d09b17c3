-- The evaluator beside the definition of runs (docs/LANGUAGE.md, "Evaluation").
pub mod Frames
pub mod Expressions
pub mod Blocks
pub mod Turns
pub mod Labels
pub mod Runs
