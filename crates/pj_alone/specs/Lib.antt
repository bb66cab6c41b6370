pub mod Completeness
pub mod Endings
pub mod Made
pub mod Promises
pub mod Top
