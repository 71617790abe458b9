pub mod Particulars
pub mod Carried
pub mod CarriedLaws
pub mod Required
pub mod RequiredLaws
pub mod Proposed
pub mod AskedLaws
