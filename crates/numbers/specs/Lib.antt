pub mod Below
pub mod Seven
pub mod SevenLaws
pub mod Several
pub mod SeveralLaws
pub mod Examples
