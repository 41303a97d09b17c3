-- The frames of functions, as they are laid out.
pub use Rattle.lay_cert.specs as lay_cert
pub use Rattle.lay_cost.specs as lay_cost
pub use Rattle.lay_par.specs as lay_par
pub use Rattle.mem_plan.specs as mem_plan
pub mod Claims
pub mod Frames
pub mod Rows
