use mathlib.Core.Path.{sym, ap, ◌∙◌}
use Rattle.target_names.specs.Names.{binds_number}
use Rattle.target_names.proofs.names.binds_number.Goals as goal

pub returns-in-Some : goal.returns-in-Some
unfolding binds_number
returns-in-Some c = c.binds_slot.ensures ∙ sym (ap (binds_number _ _) c.in-Some.is)

pub returns-in-None : goal.returns-in-None
unfolding binds_number
returns-in-None c = sym (ap (binds_number _ _) c.in-None.is)
