use Rattle.translator_sizes.specs.UnderLaws.{few, under_as}
use native.Mathlib.Omega.{arith}
use Rattle.translator_sizes.proofs.under_of.Goals as goal

pub spare_slot-spare-requires : goal.spare_slot-spare-requires
spare_slot-spare-requires c =
    omega (arith, c.requires.f_in_bounds.2, few c.bytes.ensures.right c.args.f c.requires.f_in_bounds.0)

pub returns : goal.returns
returns c =
    under_as c.bytes.ensures.right c.args.f c.requires.f_in_bounds.0 c.args.h c.requires.f_in_bounds.2 (rw (c.bytes.ensures.value) at c.spare_slot-spare.ensures) c.receiver_slot-receiver.ensures c.by_zero-bound.ensures c.by_zero-number_slot.ensures
