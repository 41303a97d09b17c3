-- Searches in threads.
pub mod Jobs
