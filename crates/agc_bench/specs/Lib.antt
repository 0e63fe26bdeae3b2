pub mod Threads
pub mod Steps
pub mod Sharing
