pub mod Taking
pub mod SeenLines
pub mod Steps
pub mod Reads
pub mod Judged
