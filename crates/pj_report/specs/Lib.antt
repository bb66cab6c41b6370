pub mod Firsts
pub mod Forms
pub mod Laws
pub mod Report
pub mod Results
pub mod Sorted
pub mod Sums
pub mod Written
