pub mod Statuses
pub mod Messages
pub mod Inputs
pub mod Program
pub mod Modes
pub mod Steps
