-- The operations of procedure files. Definitions.
pub mod Numbers
pub mod Operation
pub mod Ranges
-- Laws.
pub mod NumbersLaws
pub mod OperationLaws
pub mod ViewLaws
