pub mod DayEnd
pub mod Bounds
