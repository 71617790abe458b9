pub mod Places
pub mod PlaceLaws
