pub mod Hashes
