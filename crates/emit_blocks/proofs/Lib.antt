mod Examples
pub mod Appending
pub mod Knowing
pub mod Fitting
pub mod Rightness
