-- Writing into lent output. Definitions: Writes (what writers are asked and promise).
pub mod Writes
-- Laws.
pub mod WriteLaws
