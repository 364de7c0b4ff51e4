-- The charge of a run's answer (document 02, Slip 1). Definitions: Charge.
pub mod Charge
-- Laws.
pub mod ChargeLaws
