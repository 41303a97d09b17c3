mod RowExamples
mod RunExamples
mod SourceWorkExamples
pub mod Keeping
