pub mod Joins
pub mod Notes
pub mod Inputs
pub mod Plans
pub mod Texts
