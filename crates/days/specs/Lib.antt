pub mod Days
pub mod DayLaws
