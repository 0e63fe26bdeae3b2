pub mod Scenes
pub mod Showing
pub mod Steps
pub mod Eventful
mod Resting
mod Passing
mod Elapsing
mod Plain
pub mod Following
