-- Laws.
pub mod WalkLaws
pub mod LayoutLaws
pub mod BlockLaws
