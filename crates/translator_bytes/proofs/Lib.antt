-- Laws.
pub mod ListLaws
pub mod LengthLaws
pub mod JumpLaws
