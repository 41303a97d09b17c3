-- What the laws of translation, selected items, startups, sites and images say, and what walks find in runs, in pieces and in images.
pub use Rattle.acc_select.specs as acc_select
pub use Rattle.acc_select_proof.specs as acc_select_proof
pub use Rattle.c25_helper.specs as c25_helper
pub use Rattle.emit_proof.specs as emit_proof
pub use Rattle.frame_emit.specs as frame_emit
pub use Rattle.frame_emit.specs.emit_control as emit_control
pub use Rattle.ir_semantics.specs as ir_semantics
pub use Rattle.tree_code_proof.specs as tree_code_proof
pub mod PlanPlaces
pub mod Usable
pub mod Starts
pub mod Emissions
pub mod Active
pub mod ActiveSites
pub mod Kept
pub mod Beginnings
pub mod Keeping
pub mod InTime
pub mod Agreeing
pub mod Telling
pub mod RunWalks
pub mod AgreeingWalks
pub mod Outside
pub mod PieceWalks
pub mod DirectPieces
pub mod DirectRuns
pub mod FrameWords
pub mod FunctionWalks
pub mod Directs
pub mod Leading
pub mod Listing
