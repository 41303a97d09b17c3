-- Layouts for a recorded run.
pub use Rattle.cc_compile.specs as cc_compile
pub use Rattle.cc_compile.specs.frame_emit as frame_emit
pub use Rattle.cc_compile.specs.frame_layouts as frame_layouts
pub use Rattle.cc_compile.specs.image_proof as image_proof
pub use Rattle.cc_compile.specs.tree_code_proof as tree_code_proof
pub mod Places
pub mod Entries
pub mod Counting
pub mod Weighing
pub mod Shapes
pub mod Recordings
pub mod PartFaults
pub mod ShapedFunctions
pub mod Profiles
