pub mod TotalLaws
pub mod BoundLaws
