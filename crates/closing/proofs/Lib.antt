pub mod DayEndLaws
pub mod BoundLaws
