pub mod Variation
pub mod VariationLaws
pub mod Carried
pub mod BoundLaws
