use mathlib.Core.Path.{◌≡◌}
use Rattle.target_slots.specs.Slots.{entry_kinds}
use Rattle.target_slots.proofs.slots.entry_kinds.Given as goal

abbrev pub invariant-loop-i : goal.invariant-loop-i
invariant-loop-i l = l.kinds ≡ entry_kinds l.i
