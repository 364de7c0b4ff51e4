use Rattle.target_slots.specs.Slots.{binds}
use Rattle.target_slots.proofs.slots.binds_slot.Goals as goal

pub returns : goal.returns
unfolding binds
returns c = c.refused_unless.ensures
