-- The fields of an operation, for the bench and the translator. Definitions: the number of an operation, the argument count of a call.
pub mod Number
-- Laws: NumberLaws may be cited above, FieldsLaws are of the functions that read bytes.
pub mod NumberLaws
pub mod FieldsLaws
