pub mod Searched
pub mod Clocked
