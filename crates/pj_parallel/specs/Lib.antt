pub mod Settling
pub mod Closing
pub mod Causes
pub mod Parallel
pub mod Concluding
