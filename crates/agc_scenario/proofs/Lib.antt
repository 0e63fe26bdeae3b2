pub mod Refusals
pub mod Numbers
pub mod Counted
mod Asked
