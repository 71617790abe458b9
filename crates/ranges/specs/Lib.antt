pub mod Ranges
pub mod Cells
pub mod RangeLaws
pub mod CellLaws
