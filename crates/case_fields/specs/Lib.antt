-- What the test programs share. Definitions: Record (the bytes and fields of a record), Words (lent words).
pub mod Record
pub mod Words
-- Laws.
pub mod RecordLaws
pub mod WordLaws
