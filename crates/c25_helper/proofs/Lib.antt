pub mod CallLemmas
pub mod Quotients
pub mod Signs
pub mod Loads
pub mod Ways
pub mod SizeWays
pub mod DivInt
pub mod DivUnsigned
pub mod RemInt
pub mod RemUnsigned
pub mod ShrInt
pub mod ShrUnsigned
pub mod HelperPieces
pub mod Answering
mod Examples
