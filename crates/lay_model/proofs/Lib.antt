mod Examples
pub mod FlatBlocks
