mod Work
mod Stops
mod Lines
mod Causing
mod Ends
mod Counts
mod Running
