pub mod Finding
pub mod Ranges
pub mod AgreesWith
pub mod Tuples
