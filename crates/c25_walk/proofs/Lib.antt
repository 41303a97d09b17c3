pub mod Examples
pub mod Decodings
pub mod Cuts
pub mod Streams
pub mod Ranges
pub mod Steps
pub mod Ends
