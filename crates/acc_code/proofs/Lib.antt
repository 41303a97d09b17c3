mod Gathering
mod Frames
mod SequenceExamples
mod EmittableExamples
