pub use Rattle.c_tree.specs as c_tree
pub use Rattle.c_rules.specs as c_rules
pub mod Renaming
pub mod RenamedTokens
pub mod RenamedTrees
pub mod RenamedPrograms
