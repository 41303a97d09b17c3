pub mod Plain
pub mod Numbers
pub mod Parts
pub mod Forms
pub mod Rows
pub mod Statements
pub mod Listings
