pub mod Purges
pub mod Joins
pub mod Sides
pub mod Insides
pub mod Handed
pub mod Sweeping
pub mod Held
pub mod Watched
