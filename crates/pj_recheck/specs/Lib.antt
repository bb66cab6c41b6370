pub mod Added
pub mod Judging
pub mod Recheck
pub mod Watching
