pub mod Certificates
pub mod Reaching
pub mod Search
pub mod Saturation
pub mod Laws
