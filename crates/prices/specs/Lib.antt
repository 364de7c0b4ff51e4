-- The price list (document 02, Slip 1). Definitions: Cents; Cases has the four examples, with their theorem.
pub mod Cents
pub mod Cases
