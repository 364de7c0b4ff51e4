use Rattle.target_slots.specs.Slots.{differ}
use Rattle.target_slots.proofs.slots.differs.Goals as goal

pub returns : goal.returns
unfolding differ
returns c = c.refused_unless.ensures
