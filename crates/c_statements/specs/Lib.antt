-- What the rows of statements take, and what they lead to from the front of the tokens.
pub mod StatementRows
pub mod StatementFronts
