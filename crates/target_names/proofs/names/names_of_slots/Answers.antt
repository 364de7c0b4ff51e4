use mathlib.Core.Path.{sym, ap, ◌∙◌}
use Rattle.target_names.specs.Names.{names_of}
use Rattle.target_names.proofs.names.names_of_slots.Goals as goal

pub returns-in-Constant : goal.returns-in-Constant
unfolding names_of
returns-in-Constant c = λ ps s. c.binds_slot.ensures ∙ sym (ap (names_of _ ps _ s _) c.in-Constant.is)

pub returns-in-Copy : goal.returns-in-Copy
unfolding names_of
returns-in-Copy c = λ ps s. c.names_copy.ensures ∙ sym (ap (names_of _ ps _ s _) c.in-Copy.is)

pub returns-in-Difference : goal.returns-in-Difference
unfolding names_of
returns-in-Difference c = λ ps s. c.names_difference.ensures ∙ sym (ap (names_of _ ps _ s _) c.in-Difference.is)

pub returns-in-Resume : goal.returns-in-Resume
unfolding names_of
returns-in-Resume c = λ ps s. c.names_resume.ensures ∙ sym (ap (names_of _ ps _ s _) c.in-Resume.is)

pub returns-in-Handle : goal.returns-in-Handle
unfolding names_of
returns-in-Handle c = λ ps s. c.names_handle.ensures ∙ sym (ap (names_of _ ps _ s _) c.in-Handle.is)

pub returns-in-Branch : goal.returns-in-Branch
unfolding names_of
returns-in-Branch c = λ ps s. c.names_branch.ensures ∙ sym (ap (names_of _ ps _ s _) c.in-Branch.is)

pub returns-in-Continuation : goal.returns-in-Continuation
unfolding names_of
returns-in-Continuation c = λ ps s. c.names_continuation.ensures ∙ sym (ap (names_of _ ps _ s _) c.in-Continuation.is)

pub returns-in-ContinuationWithHandler : goal.returns-in-ContinuationWithHandler
unfolding names_of
returns-in-ContinuationWithHandler c = λ ps s. c.names_continuation_with_handler.ensures ∙ sym (ap (names_of _ ps _ s _) c.in-ContinuationWithHandler.is)

pub returns-in-DifferenceOrRaise : goal.returns-in-DifferenceOrRaise
unfolding names_of
returns-in-DifferenceOrRaise c = λ ps s. c.names_difference-in-DifferenceOrRaise.ensures ∙ sym (ap (names_of _ ps _ s _) c.in-DifferenceOrRaise.is)

pub returns-in-Refused : goal.returns-in-Refused
unfolding names_of
returns-in-Refused c = λ ps s. sym (ap (names_of _ ps _ s _) c.in-Refused.is)
