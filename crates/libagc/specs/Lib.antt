pub mod Codes
pub mod Requests
pub mod Stepping
pub mod Numbers
pub mod Times
pub mod Scenes
pub mod Plans
