-- One step of the bench. Definition: Subtracts (operation 3 up to a raise).
pub mod Subtracts
-- Laws: of an operation's number, of the operations that touch no frame.
pub mod NumberLaws
pub mod StepLaws
