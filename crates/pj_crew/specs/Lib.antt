pub mod Duties
pub mod Tasks
pub mod Seats
pub mod Crews
