pub mod Boxes
pub mod StatementTokens
pub mod StatementRows
pub mod StatementTaken
pub mod StatementHeights
pub mod StatementOnly
pub mod StatementWays
pub mod StatementLists
