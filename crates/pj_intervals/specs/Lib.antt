pub mod Steps
pub mod Intervals
