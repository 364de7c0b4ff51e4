-- Runs of either machine, for any type of state. Definitions: Stopped (how a run ends and stops, as the code tells it), Tells (a verdict beside what
-- an accepted call tells), Words (the lent words after a run), Machine (what a machine holds, its step and its loop).
pub mod Stopped
pub mod Tells
pub mod Words
pub mod Machine
-- Laws; those that rest on Tells are in proofs/.
pub mod WordsLaws
pub mod MachineLaws
