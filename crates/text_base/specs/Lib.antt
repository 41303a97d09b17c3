pub mod Hex
pub mod Lines
pub mod Fields
pub mod FilledLines
