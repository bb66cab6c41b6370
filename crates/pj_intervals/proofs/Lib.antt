pub mod CutOrder
pub mod MergedSteps
pub mod StepSearch
pub mod Levels
pub mod RangeSteps
pub mod MemberSteps
pub mod PatternSteps
