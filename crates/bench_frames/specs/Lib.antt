-- The bench's registers and frames, and a call. Definitions: Machine (what registers and words stand for, what holds between steps), Steps (what a step gives).
pub mod Machine
pub mod Steps
-- Laws: of the operations at an offset, of the rules' state and the next, of a call.
pub mod OperationsLaws
pub mod StateLaws
pub mod CallLaws
