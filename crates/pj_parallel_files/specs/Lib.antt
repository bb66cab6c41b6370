pub mod Histories
pub mod Causes
pub mod Feeds
