pub mod Tickets
pub mod Acts
pub mod Gives
pub mod Arrivals
pub mod Steps
pub mod Ending
pub mod Whole
