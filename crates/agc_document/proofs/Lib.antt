pub mod Each
pub mod Names
pub mod Beside
pub mod Benches
pub mod Refusals
