-- Words and numbers in decimal. Definitions: Decimal, WroteText (what a writer has done).
pub mod Decimal
pub mod WroteText
-- Laws.
pub mod DecimalLaws
