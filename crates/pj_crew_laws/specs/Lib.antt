pub mod Acts
pub mod Crews
