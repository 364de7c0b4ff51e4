-- The tags of translated files. Definitions.
pub mod NumberSlot
pub mod Tag
-- Laws.
pub mod TagLaws
pub mod ViewLaws
