pub mod Closable
pub mod ReadLaws
pub mod TurnLaws
pub mod ClosableLaws
