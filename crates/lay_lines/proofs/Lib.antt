pub mod Blocks
pub mod Lists
pub mod ArrangedLists
pub mod MarkLines
