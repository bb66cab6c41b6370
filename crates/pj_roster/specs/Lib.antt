pub mod Assigned
pub mod Dismissed
pub mod Rosters
