pub mod Cuts
pub mod CellWords
pub mod Statements
pub mod PlanRead
pub mod Spelling
pub mod Kept
pub mod Laws
