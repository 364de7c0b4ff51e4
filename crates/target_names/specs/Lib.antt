-- The names in a node. Definitions: Names; Asked has what functions over a node are asked.
pub mod Names
pub mod Asked
-- Laws.
pub mod NamesLaws
