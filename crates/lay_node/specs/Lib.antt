-- What is kept of a node while a walk goes over the tree.
pub mod Levels
pub mod Numbers
pub mod Strings
pub mod Positions
