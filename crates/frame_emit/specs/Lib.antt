-- Emission: the pieces of a program of accumulator code, by a plan of data memory and an arrangement of each frame.
pub use Rattle.emit_control.specs as emit_control
pub mod Frames
pub mod StaticWords
pub mod Startup
pub mod Emitted
