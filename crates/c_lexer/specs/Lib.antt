pub mod LexFaults
pub mod Front
pub mod TokenText
