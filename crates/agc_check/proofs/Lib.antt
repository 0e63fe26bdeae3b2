pub mod Lines
pub mod Found
pub mod Repeating
pub mod Scenarios
