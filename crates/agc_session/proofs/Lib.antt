pub mod Walks
pub mod Sessions
pub mod Pairs
pub mod Pieces
pub mod OneText
