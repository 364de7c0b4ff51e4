use mathlib.Core.Path.{sym, ap, ◌∙◌}
use Rattle.target_names.specs.Names.{reads_number}
use Rattle.target_names.proofs.names.reads_number.Goals as goal

pub returns-in-Some : goal.returns-in-Some
unfolding reads_number
returns-in-Some c = c.reads_slot.ensures ∙ sym (ap (reads_number _ _ _) c.in-Some.is)

pub returns-in-None : goal.returns-in-None
unfolding reads_number
returns-in-None c = sym (ap (reads_number _ _ _) c.in-None.is)
