pub mod Hearing
mod Beats
mod Scanning
mod Seats
mod Passing
mod Working
mod Elapsing
pub mod Scenarios
mod Keeping
mod Spending
mod Drawing
