pub mod Turns
pub mod Plans
pub mod Wide
pub mod Few
mod Worked
