pub use Rattle.text_base.specs.Lines
pub mod SequenceText
pub mod SequenceReading
pub mod LineReading
