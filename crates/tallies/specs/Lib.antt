pub mod Day
pub mod Means
pub mod Tally
pub mod Bounds
pub mod MeanLaws
