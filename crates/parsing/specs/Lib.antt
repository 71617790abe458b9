pub mod Guess
pub mod GuessLaws
pub mod Parsing
pub mod Places
pub mod PlaceLaws
pub mod WordLaws
pub mod LineLaws
