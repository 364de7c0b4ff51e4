use Rattle.parsing.proofs.Cases.{cases}
use Rattle.target_slots.specs.Slots.{bound}
use Rattle.target_slots.proofs.slots.bind_in.Goals as goal

pub returns-then-slot-lt-MAX_SLOTS : goal.returns-then-slot-lt-MAX_SLOTS
unfolding bound
returns-then-slot-lt-MAX_SLOTS c = search cases

pub returns-else-slot-lt-MAX_SLOTS : goal.returns-else-slot-lt-MAX_SLOTS
unfolding bound
returns-else-slot-lt-MAX_SLOTS c = search cases
