pub mod Brief
pub mod Shown
