pub mod ClosedSets
pub mod TestedSteps
pub mod Appended
pub mod FreeValues
pub mod EscapingRows
pub mod BlankOnes
