-- Accumulator code: its items, what emission wants of them, and the accesses of their scalars.
pub mod AccTree
pub mod AccView
pub mod Operands
pub mod Emittable
pub mod AccSequence
