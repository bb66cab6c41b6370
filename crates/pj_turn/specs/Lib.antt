pub mod Meanings
pub mod History
pub mod Rule
pub mod Seats
