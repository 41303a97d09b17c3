-- The grammar is read in one way: what one or two tokens tell, how a row is read by them, and that this finds each tree.
pub mod Lookahead
pub mod Types
pub mod Begins
pub mod ReadsOne
pub mod Joins
pub mod Forms
pub mod ExpressionReads
pub mod ExpressionOne
pub mod ReadsDerive
