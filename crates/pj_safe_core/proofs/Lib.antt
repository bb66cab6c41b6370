pub mod Verified
pub mod OneByOne
pub mod Certified
