-- The layout of procedure files. Definitions, in reading order.
pub mod Layout
pub mod Rest
pub mod After
