pub mod Frames
pub mod Verdicts
pub mod CertText
pub mod CertReading
pub mod LineReading
pub mod FrameReading
