mod Examples
pub mod Appending
pub mod Accessing
pub mod Naming
pub mod Emitting
pub mod CaseLemmas
pub mod Ends
pub mod Forms
pub mod Listing
pub mod Structures
