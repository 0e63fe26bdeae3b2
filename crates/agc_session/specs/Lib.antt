pub mod Messages
pub mod Walks
pub mod Session
pub mod Runs
pub mod Pieces
pub mod Steps
