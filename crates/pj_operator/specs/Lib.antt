pub mod Operators
pub mod Emitting
pub mod Acts
pub mod Handed
pub mod Looks
pub mod Lent
