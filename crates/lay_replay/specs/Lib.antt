pub mod LogVerdicts
pub mod Walks
