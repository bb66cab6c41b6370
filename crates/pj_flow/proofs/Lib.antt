pub mod Asking
pub mod Cells
pub mod Holding
pub mod Storing
pub mod Sampling
