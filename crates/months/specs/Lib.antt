pub mod Months
pub mod MonthLaws
