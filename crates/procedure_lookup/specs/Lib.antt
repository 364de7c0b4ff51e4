-- The lookup of blocks: Lookup defines the answers.
pub mod Lookup
