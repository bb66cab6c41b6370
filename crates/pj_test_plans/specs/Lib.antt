pub mod Joins
pub mod MixedKinds
pub mod ThreeInputs
