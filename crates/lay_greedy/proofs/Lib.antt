pub mod Ends
pub mod Sets
pub mod Places
pub mod Weighted
pub mod Strings
pub mod Spreads
pub mod Starts
