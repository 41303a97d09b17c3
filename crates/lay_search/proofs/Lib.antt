pub mod Following
pub mod Completing
pub mod Visiting
pub mod Walking
pub mod Joining
pub mod Piecing
pub mod Opened
pub mod Rounding
