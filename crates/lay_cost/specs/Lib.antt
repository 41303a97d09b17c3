-- What layouts cost.
pub mod Placements
pub mod Cost
pub mod Restricted
pub mod Weights
pub mod Parts
pub mod Memory
