pub mod Completing
pub mod Fronts
pub mod Holding
pub mod Limiting
pub mod Refusing
pub mod Settled
pub mod Tells
