mod Examples
pub mod Appending
pub mod Positions
pub mod Trimming
pub mod Joining
pub mod Naming
