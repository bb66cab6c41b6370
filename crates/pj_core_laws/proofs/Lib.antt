pub mod PlainAnswers
pub mod UnderWay
pub mod Settles
pub mod Allowed
