pub mod Appends
pub mod Auctions
