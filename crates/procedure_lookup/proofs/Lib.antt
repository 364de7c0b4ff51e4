-- The laws that the functions cite.
pub mod LookupLaws
