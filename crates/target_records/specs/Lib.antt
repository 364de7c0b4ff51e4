-- What a translated file says of a record. Definitions.
pub mod RecordParts
-- Laws.
pub mod RecordPartsLaws
