pub mod Answers
pub mod Settling
