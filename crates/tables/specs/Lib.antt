pub mod Tables
pub mod TableLaws
