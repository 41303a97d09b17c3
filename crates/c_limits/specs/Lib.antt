pub mod OperandForms
pub mod Capped
pub mod Frames
pub mod Storage
pub mod Calls
pub mod Trails
pub mod FunctionView
