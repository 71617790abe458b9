pub mod Holdings
pub mod Limits
pub mod Bounds
pub mod LimitLaws
