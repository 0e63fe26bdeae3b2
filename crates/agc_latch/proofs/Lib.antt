-- The lemmas of the latch.
pub mod Totals
pub mod Keeps
pub mod Joining
