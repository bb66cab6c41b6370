mod Handing
mod Shares
mod Assigned
mod Taking
pub mod Begins
pub mod FedEach
pub mod Keeps
pub mod Tells
