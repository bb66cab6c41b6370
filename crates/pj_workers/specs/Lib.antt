pub mod Rounds
pub mod Ends
pub mod Writes
pub mod Feeds
