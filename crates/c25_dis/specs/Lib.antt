pub mod Operands
pub mod Listing
