pub mod Rising
pub mod Asking
pub mod Routes
pub mod Making
pub mod Judges
