pub mod Held
pub mod Calls
pub mod MemStock
pub mod MemOutput
