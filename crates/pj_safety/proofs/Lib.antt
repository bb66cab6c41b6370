pub mod Nodes
pub mod Joins
pub mod Risks
