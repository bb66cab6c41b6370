pub mod Judgments
pub mod Asked
pub mod Checks
