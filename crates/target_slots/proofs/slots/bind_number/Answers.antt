use mathlib.Core.Path.{sym, ap, ◌∙◌}
use Rattle.target_slots.specs.Slots.{bound_number}
use Rattle.target_slots.proofs.slots.bind_number.Goals as goal

pub returns-in-Some : goal.returns-in-Some
unfolding bound_number
returns-in-Some c = c.bind.ensures ∙ sym (ap (bound_number _) c.in-Some.is)

pub returns-in-None : goal.returns-in-None
unfolding bound_number
returns-in-None c = sym (ap (bound_number _) c.in-None.is)
