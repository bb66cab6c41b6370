pub mod Handed
pub mod Unions
pub mod Insides
pub mod Stored
