pub mod Linking
pub mod Addresses
