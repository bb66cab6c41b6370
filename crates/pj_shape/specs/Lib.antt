pub mod Columns
pub mod Lists
pub mod Joining
pub mod Laws
pub mod Sound
pub mod Sets
pub mod Certificates
pub mod Instances
