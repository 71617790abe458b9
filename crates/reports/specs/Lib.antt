pub mod Reports
pub mod ReportLaws
pub mod ShownLaws
