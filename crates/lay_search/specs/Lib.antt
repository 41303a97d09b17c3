-- What a search has done.
pub mod Descents
pub mod Ends
pub mod Openings
pub mod Rounds
pub mod Roots
