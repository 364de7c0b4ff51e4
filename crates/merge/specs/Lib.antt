-- The merge of two procedure files. Definitions, in reading order: Merged (what is published), Parts (the bytes that are written), Asked (what
-- private functions are asked).
pub mod Merged
pub mod Parts
pub mod Asked
