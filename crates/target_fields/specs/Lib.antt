-- The fields of a node for a machine. Definitions: the number of a node, the slots of a jump's values.
pub mod Number
pub mod Values
-- Laws.
pub mod FieldsLaws
pub mod ValuesLaws
pub mod NumberLaws
