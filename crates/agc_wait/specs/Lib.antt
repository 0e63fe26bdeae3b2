pub mod Waits
pub mod Table
pub mod Writing
pub mod Calls
pub mod Moving
pub mod Parts
pub mod Runs
