pub mod Rows
pub mod Tables
pub mod TableLaws
pub mod PriceLaws
