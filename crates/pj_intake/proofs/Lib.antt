pub mod Counts
pub mod Ended
pub mod Judging
pub mod Calls
