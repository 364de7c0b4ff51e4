-- Demands 1 and 3 over files. Statement (the claim), Sides (the call that runs), Merged (the claim of a merged file), VersionOne (that of a file of
-- version 1), Cases (the starred cases, with their theorem); Theorem proves Statement, MergedLaws proves Merged, VersionOneLaws proves VersionOne.
pub mod Statement
pub mod Sides
pub mod Merged
pub mod VersionOne
pub mod Theorem
pub mod Cases
-- Laws.
pub mod SidesLaws
pub mod MergedSizeLaws
pub mod MergedLaws
pub mod VersionOneLaws
