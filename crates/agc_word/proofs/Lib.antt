pub mod Sums
pub mod Keeping
pub mod Padding
