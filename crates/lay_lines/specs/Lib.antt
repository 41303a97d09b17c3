pub mod BlockText
pub mod ListText
pub mod MarkText
