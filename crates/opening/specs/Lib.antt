pub mod Opens
pub mod Filled
pub mod Putting
pub mod RelistLaws
pub mod OpenLaws
