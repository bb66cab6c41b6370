pub mod Added
pub mod Grown
pub mod Handing
pub mod MemoryReads
pub mod Notes
pub mod Pieces
