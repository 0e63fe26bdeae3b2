pub mod Lines
pub mod Latches
pub mod Steps
pub mod Tellings
pub mod Ends
pub mod Holders
pub mod Accounts
pub mod Laws
