pub mod ScriptLines
pub mod ScriptFaults
pub mod Runs
pub mod Going
pub mod Shown
pub mod OneSession
