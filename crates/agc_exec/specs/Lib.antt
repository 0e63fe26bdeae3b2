pub mod Frames
pub mod HeldJob
pub mod Sets
pub mod Blocks
pub mod Image
pub mod Calls
pub mod Stages
pub mod Seats
