pub mod Auctions
