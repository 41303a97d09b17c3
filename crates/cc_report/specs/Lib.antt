pub mod Report
pub mod Profile
