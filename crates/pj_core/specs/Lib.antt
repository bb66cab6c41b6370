pub mod Plans
pub mod Cores
pub mod Calls
pub mod Parts
pub mod Fresh
pub mod Turns
pub mod Settling
