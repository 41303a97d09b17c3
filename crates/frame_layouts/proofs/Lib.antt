pub use Rattle.mem_plan.proofs as mem_plan
mod Certifying
pub mod Framing
mod Loops
