pub mod Follows
pub mod FollowLaws
pub mod Lines
pub mod LineLaws
pub mod Trails
pub mod TrailLaws
