pub mod Routines
pub mod Results
pub mod Lines
pub mod Calls
pub mod Answering
pub mod Names
