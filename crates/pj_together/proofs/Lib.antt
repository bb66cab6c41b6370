pub mod Lines
pub mod Stopping
pub mod Keeping
