-- Reading a file of bytes. Definitions, in reading order: Parser, Refusals, Fields, Bytes; SizeFirst has the order before Slip 5.
pub mod Parser
pub mod Refusals
pub mod Fields
pub mod Bytes
pub mod SizeFirst
-- Laws.
pub mod ParserLaws
pub mod VerdictLaws
pub mod BytesAtLaws
pub mod ReadsLaws
pub mod BytesLaws
pub mod RowLaws
pub mod SizeFirstLaws
