pub mod Derived
pub mod Fitting
pub mod Laws
