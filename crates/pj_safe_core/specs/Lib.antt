pub mod Certified
pub mod Verified
