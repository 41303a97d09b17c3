pub mod Cuts
pub mod Numbers
pub mod Names
pub mod Operands
pub mod Statements
pub mod AssemblerText
pub mod LabelView
pub mod Reading
