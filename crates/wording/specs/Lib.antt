pub mod Words
pub mod Text
pub mod TextLaws
pub mod WalkLaws
