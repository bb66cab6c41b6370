pub mod Patterns
pub mod Normal
pub mod Meets
pub mod Shapes
pub mod Columns
pub mod Elements
pub mod Fitting
pub mod Laws
