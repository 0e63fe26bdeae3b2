pub mod Arrays
pub mod Frames
