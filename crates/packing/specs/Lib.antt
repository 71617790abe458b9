pub mod Lines
pub mod LineLaws
pub mod Turns
pub mod Packs
pub mod PackLaws
pub mod PackTurns
