pub mod Alike
pub mod Alone
pub mod Givens
pub mod Held
pub mod Indexed
pub mod Numbers
pub mod Hashes
pub mod Stores
