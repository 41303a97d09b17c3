pub mod Grown
pub mod Renumbered
pub mod Named
pub mod Scopes
pub mod Starts
pub mod Openings
pub mod Statements
pub mod Within
pub mod Counting
pub mod Frames
pub mod Units
pub mod Placing
pub mod CharacterTokens
pub mod ConstantWords
pub mod OperandWords
pub mod TypedWords
pub mod InitialWords
pub mod OpenedWords
pub mod StatementWords
pub mod RenumberedWords
pub mod UnitWords
pub mod TemporaryOperands
pub mod TemporaryExpressions
pub mod CountedBodies
pub mod CountedSources
mod Examples
mod WordExamples
