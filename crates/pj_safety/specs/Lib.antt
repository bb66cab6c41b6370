pub mod Safety
pub mod Certificates
pub mod Laws
