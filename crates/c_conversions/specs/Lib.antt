pub mod OperandView
pub mod ConstantWords
