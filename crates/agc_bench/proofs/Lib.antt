pub mod Askers
pub mod Histories
pub mod Pledges
pub mod Early
pub mod Pulses
pub mod Posts
pub mod Settling
pub mod Texts
