pub mod Deals
pub mod DealLaws
pub mod Beyond
pub mod Rows
pub mod Bounds
pub mod BoundLaws
