use mathlib.Core.Path.{sym, ap, ◌∙◌}
use Rattle.parsing.specs.Parser.{refused_unless}
use Rattle.target_slots.specs.SlotsLaws.{equal_same, reads_within, reads_beyond}
use Rattle.target_slots.proofs.slots.reads_slot.Goals as goal

pub returns-then-slot-slots : goal.returns-then-slot-slots
returns-then-slot-slots c =
    c.refused_unless.ensures
    ∙ ap (λ t. refused_unless t c.kind_refusal.result c.args.place) (c.eq.ensures ∙ equal_same c.kind_of-bound.result c.args.kind)
    ∙ reads_within _ _ _ _ _ c.if-slot-slots.true c.kind_of-bound.ensures c.kind_refusal.ensures

pub returns : goal.returns
returns c = sym (reads_beyond _ _ _ _ _ c.if-slot-slots.false)
