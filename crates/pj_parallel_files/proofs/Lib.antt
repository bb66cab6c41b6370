pub mod Reporting
pub mod Leaving
pub mod Causing
