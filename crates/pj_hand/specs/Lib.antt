pub mod Hands
pub mod Held
pub mod Steps
pub mod Settling
