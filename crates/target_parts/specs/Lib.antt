-- The parts of translated files. Definitions: Parts.
pub mod Parts
-- Laws.
pub mod PartsLaws
