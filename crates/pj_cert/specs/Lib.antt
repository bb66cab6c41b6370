pub mod Tests
pub mod Verdicts
pub mod Instances
pub mod Fresh
pub mod Escaping
pub mod Partners
pub mod Laws
