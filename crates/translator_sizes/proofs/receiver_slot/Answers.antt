use Rattle.translator_sizes.specs.UnderLaws.{no_receiver_slot, receiver_slot_lem}
use native.Mathlib.Omega.{arith}
use Rattle.translator_sizes.proofs.receiver_slot.Goals as goal

pub returns-then-x : goal.returns-then-x
returns-then-x c =
    no_receiver_slot c.table.ensures.right c.args.f c.requires.f_in_bounds.0 c.args.h c.requires.f_in_bounds.1 c.if-h-eq0.false c.from.ensures (rw (c.table.ensures.value) at c.receiver_of-x.ensures) c.if-x.true

pub overflow_add-result : goal.overflow_add-result
overflow_add-result c =
    omega (arith, (receiver_slot_lem c.table.ensures.right c.args.f c.requires.f_in_bounds.0 c.args.h c.requires.f_in_bounds.1 c.if-h-eq0.false c.from.ensures (rw (c.table.ensures.value) at c.receiver_of-x.ensures) c.if-x.false).0)

pub returns : goal.returns
returns c =
    (receiver_slot_lem c.table.ensures.right c.args.f c.requires.f_in_bounds.0 c.args.h c.requires.f_in_bounds.1 c.if-h-eq0.false c.from.ensures (rw (c.table.ensures.value) at c.receiver_of-x.ensures) c.if-x.false).1
