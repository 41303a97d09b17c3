pub use Rattle.c_names.specs as c_names
pub use Rattle.c_names.specs.Tables
pub mod ArgumentView
pub mod Sides
