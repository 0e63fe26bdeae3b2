pub mod Reading
pub mod Kept
pub mod Writes
pub mod Records
pub mod OneTable
