pub mod UnderWay
pub mod InOrder
pub mod Placed
pub mod Standing
pub mod NewHand
pub mod Keys
pub mod Giving
pub mod Settles
