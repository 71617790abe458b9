pub mod Changes
pub mod ChangeLaws
pub mod HeaderLaws
pub mod EnrolLaws
pub mod StartLaws
