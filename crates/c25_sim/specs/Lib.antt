pub mod MachineView
pub mod Taken
pub mod Rows
pub mod Answers
