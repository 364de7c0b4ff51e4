-- Return and raise. Definitions: Raises (a step that raises), Guarded (the newest frame with a handler, in lent words alone).
pub mod Raises
pub mod Guarded
-- Laws: to a label, of the search for that frame, of the frames that are left.
pub mod EnterLaws
pub mod GuardedLaws
pub mod UnwindLaws
