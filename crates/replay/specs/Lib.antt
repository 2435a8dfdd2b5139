-- When an answer is as it was stored, and what is counted.
pub mod Comparing
pub mod Tallies
