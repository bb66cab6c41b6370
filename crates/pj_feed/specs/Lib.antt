pub mod Feeds
pub mod Opened
pub mod Named
