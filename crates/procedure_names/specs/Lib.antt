-- The writing of programs and the names in it. Definitions, in reading order.
pub mod Writing
pub mod Names
pub mod OperationNames
-- Laws.
pub mod NamesLaws
pub mod NamedLaws
pub mod ReceiverLaws
