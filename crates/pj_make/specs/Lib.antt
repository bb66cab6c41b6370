pub mod Draws
pub mod Inputs
pub mod Worked
