pub mod Completing
pub mod Words
pub mod Threads
