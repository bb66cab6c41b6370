pub mod Calls
pub mod Plans
pub mod Ready
pub mod Refusals
pub mod Scripts
pub mod Stops
