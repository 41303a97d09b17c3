pub mod KnownView
pub mod Decoding
pub mod Marks
pub mod Places
pub mod Walking
pub mod Walks
