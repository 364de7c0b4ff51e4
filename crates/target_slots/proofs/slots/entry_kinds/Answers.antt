use mathlib.Core.Path.{refl}
use Rattle.target_slots.specs.SlotsLaws.{entry_more}
use Rattle.target_slots.specs.Slots.{entry_kinds}
use Rattle.target_slots.proofs.slots.entry_kinds.Goals as goal

pub loop-i-init : goal.loop-i-init
unfolding entry_kinds
loop-i-init c = refl

pub loop-i-preserved : goal.loop-i-preserved
loop-i-preserved c = entry_more _ _ _ c.loop-i.invariant c.bind-kinds.ensures
