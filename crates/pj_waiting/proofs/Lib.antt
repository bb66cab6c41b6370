pub mod Holding
pub mod Leaving
pub mod Listed
pub mod Looped
pub mod SortedOut
