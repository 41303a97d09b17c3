pub mod Answers
pub mod GenText
pub mod LayoutText
pub mod MeansText
pub mod RunText
