pub mod Lines
pub mod OrderLaws
pub mod LineLaws
pub mod KeyLaws
pub mod LengthLaws
pub mod RefusalLaws
