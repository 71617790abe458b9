pub mod Funds
pub mod Bounds
pub mod FundsLaws
pub mod BoundLaws
