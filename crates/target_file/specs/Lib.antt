-- Translated files. Definitions and statements, in reading order; SizeFirst has the check before Slip 5.
pub mod Check
pub mod Writing
pub mod Accepted
pub mod Translated
pub mod Tables
pub mod LoadedCode
pub mod Places
pub mod SizeFirst
-- Laws; those that rest on Check are in proofs/.
pub mod NumberSlotLaws
pub mod MoreSlotsLaws
