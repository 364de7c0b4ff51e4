-- The slots of translated files. Definitions: Slots.
pub mod Slots
-- Laws.
pub mod SlotsLaws
