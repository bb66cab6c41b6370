pub mod Playing
pub mod Plays
pub mod Settles
