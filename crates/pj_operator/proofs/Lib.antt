pub mod Changes
pub mod Emits
pub mod Firsts
pub mod Joins
pub mod Nodes
pub mod Ways
pub mod Widths
