-- The structure of code: from items of accumulator code to items of pieces.
pub mod Entries
pub mod Flow
pub mod Settings
pub mod Cuts
pub mod Marked
pub mod Emits
