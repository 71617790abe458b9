pub mod TradedLaws
pub mod DealsLaws
