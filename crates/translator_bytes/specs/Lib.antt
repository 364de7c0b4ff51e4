-- The bytes of a translation. Definitions: Bytes (what operations become), Writes (what the writers of a call are asked).
pub mod Bytes
pub mod Writes
