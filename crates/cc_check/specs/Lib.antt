pub use Rattle.lay_cert.specs as lay_cert
pub mod Findings
pub mod CheckText
pub mod Checks
pub mod Memory
pub mod Checked
pub mod Kept
