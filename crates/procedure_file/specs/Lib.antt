-- Procedure files. Definitions, in reading order; Asked has what private functions are asked and give, SizeFirst the check before Slip 5.
pub mod Check
pub mod Accepted
pub mod Places
pub mod Table
pub mod Loaded
pub mod FileInvariant
pub mod Asked
pub mod SizeFirst
-- Laws; those that rest on Check are in proofs/.
pub mod WrittenLaws
pub mod ReadsBackLaws
pub mod PlacesLaws
