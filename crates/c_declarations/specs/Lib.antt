-- What the rows of declarations take, and what they lead to from the front of the tokens.
pub mod DeclarationRows
pub mod DeclarationFronts
