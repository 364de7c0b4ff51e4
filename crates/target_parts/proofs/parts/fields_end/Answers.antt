use mathlib.Core.Path.{sym, ap}
use Rattle.target_parts.specs.Parts.{fields_end}
use Rattle.target_parts.proofs.parts.fields_end.Goals as goal

pub returns-in-Constant : goal.returns-in-Constant
unfolding fields_end
returns-in-Constant c = sym (ap fields_end c.in-Constant.is)

pub returns-in-Copy : goal.returns-in-Copy
unfolding fields_end
returns-in-Copy c = sym (ap fields_end c.in-Copy.is)

pub returns-in-Difference : goal.returns-in-Difference
unfolding fields_end
returns-in-Difference c = sym (ap fields_end c.in-Difference.is)

pub returns-in-Jump : goal.returns-in-Jump
unfolding fields_end
returns-in-Jump c = sym (ap fields_end c.in-Jump.is)

pub returns-in-Resume : goal.returns-in-Resume
unfolding fields_end
returns-in-Resume c = sym (ap fields_end c.in-Resume.is)

pub returns-in-Handle : goal.returns-in-Handle
unfolding fields_end
returns-in-Handle c = sym (ap fields_end c.in-Handle.is)

pub returns-in-Branch : goal.returns-in-Branch
unfolding fields_end
returns-in-Branch c = sym (ap fields_end c.in-Branch.is)

pub returns-in-Continuation : goal.returns-in-Continuation
unfolding fields_end
returns-in-Continuation c = sym (ap fields_end c.in-Continuation.is)

pub returns-in-ContinuationWithHandler : goal.returns-in-ContinuationWithHandler
unfolding fields_end
returns-in-ContinuationWithHandler c = sym (ap fields_end c.in-ContinuationWithHandler.is)

pub returns-in-DifferenceOrRaise : goal.returns-in-DifferenceOrRaise
unfolding fields_end
returns-in-DifferenceOrRaise c = sym (ap fields_end c.in-DifferenceOrRaise.is)

pub returns-in-Refused : goal.returns-in-Refused
unfolding fields_end
returns-in-Refused c = sym (ap fields_end c.in-Refused.is)
