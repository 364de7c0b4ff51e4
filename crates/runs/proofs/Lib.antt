-- Laws.
pub mod TellsLaws
pub mod CallLaws
pub mod OutputLaws
