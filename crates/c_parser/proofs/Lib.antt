pub mod UnitWays
pub mod UnitTaken
pub mod Places
