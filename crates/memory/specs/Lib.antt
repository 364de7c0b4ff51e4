-- Lent words. Definitions: Lay (a part laid over a list), Frame (the words of a frame), Call (what a call is refused for).
pub mod Lay
pub mod Frame
pub mod Call
-- Laws.
pub mod LayLaws
pub mod FrameLaws
pub mod CallLaws
pub mod GatherLaws
