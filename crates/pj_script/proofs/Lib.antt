pub mod Numbers
pub mod ScriptCells
pub mod ScriptLines
pub mod StepsFit
