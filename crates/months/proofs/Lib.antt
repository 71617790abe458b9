pub mod FirstDays
