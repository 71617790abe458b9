pub mod Put
pub mod Sizes
