pub mod States
pub mod FollowedLaws
pub mod StateLaws
