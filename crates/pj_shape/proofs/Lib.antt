pub mod CellValues
pub mod Certificates
pub mod Classes
pub mod Joining
pub mod DomainsOf
pub mod Tested
