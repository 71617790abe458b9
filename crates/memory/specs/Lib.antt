pub mod Rows
pub mod Layout
pub mod Memory
pub mod RowLaws
pub mod MemoryLaws
