pub mod Clap
pub mod Form
pub mod Found
pub mod Matches
pub mod Reader
pub mod Request
pub mod Steps
