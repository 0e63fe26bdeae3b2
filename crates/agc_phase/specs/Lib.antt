pub mod Image
pub mod Writing
pub mod Recording
