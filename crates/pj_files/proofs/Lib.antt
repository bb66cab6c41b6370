pub mod Reported
pub mod Staying
pub mod StatusNotes
