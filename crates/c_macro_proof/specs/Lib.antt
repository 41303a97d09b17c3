pub use Rattle.c_macro.specs as c_macro
pub use Rattle.c_renaming.specs as c_renaming
pub mod Sources
