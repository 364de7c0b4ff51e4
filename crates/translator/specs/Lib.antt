-- The translator. Definitions, in reading order: Translated (what is published), Asked (what private functions are asked).
pub mod Translated
pub mod Asked
-- Laws.
pub mod BlockLaws
pub mod PartLaws
pub mod FileLaws
pub mod AnswerLaws
