mod Zips
mod Places
mod Beginnings
pub mod Endings
mod Histories
