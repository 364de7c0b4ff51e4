-- The rules on abstract syntax, in document 01's form. Definitions, in reading order: Program (figure 1 of source document 003), Bench (2),
-- WellFormed (3, 4), Code (5), Controller (6), Translation (7), Matching (8); the others are document 01's alone.
pub mod Value
pub mod Program
pub mod Run
pub mod Bench
pub mod WellFormed
pub mod Code
pub mod Controller
pub mod SlotRules
pub mod Places
pub mod SlotStates
pub mod Translation
pub mod SlotCount
pub mod Extras
pub mod Matching
pub mod Statement
pub mod Merge
pub mod VersionOne
