-- What stands at the front of the tokens that are left, what was taken from it, and what a refusal tells of them.
pub mod Front
pub mod Takes
pub mod Refusals
