-- The expressions of translated files. Definitions: Expressions; Ends has what the functions answer.
pub mod Expressions
pub mod Ends
