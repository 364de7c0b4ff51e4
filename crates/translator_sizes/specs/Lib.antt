-- The size of what a procedure file is translated to. Definitions, in reading order: Parts (the bytes of each part), Asked (what the functions are asked and give).
pub mod Parts
pub mod Asked
-- Laws.
pub mod SizeLaws
pub mod UnderLaws
pub mod BodyLaws
pub mod OperationLaws
pub mod CountLaws
pub mod PartLaws
pub mod FunctionLaws
pub mod SlotsLaws
