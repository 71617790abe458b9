pub mod Accounts
pub mod Bounds
pub mod BoundLaws
pub mod CloseLaws
pub mod Examples
