-- The lines that program `both` prints. Definitions: Text. Computed: Cases.
pub mod Text
pub mod Cases
-- Laws.
pub mod TextLaws
