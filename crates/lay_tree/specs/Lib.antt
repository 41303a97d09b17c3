-- The search for a layout that costs least.
pub mod Tree
pub mod Bound
pub mod Greedy
pub mod Search
pub mod Marked
pub mod Replays
