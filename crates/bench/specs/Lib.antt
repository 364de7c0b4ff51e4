-- Runs of the bench. Definitions: Published (what a call tells and leaves), RunResult (going on from a state).
pub mod Published
pub mod RunResult
-- Laws.
pub mod TurnLaws
pub mod StartLaws
pub mod AnswerLaws
