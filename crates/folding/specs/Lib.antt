pub mod Fold
pub mod FoldLaws
