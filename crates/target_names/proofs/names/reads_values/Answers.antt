use Rattle.std.proofs.Common.{◌≡◌, ◌+◌, ◌-◌, ◌∙◌, arith}
use Rattle.target_names.specs.NamesLaws.{values_on}
use Rattle.target_names.proofs.names.reads_values.Goals as goal

pub loop-i-preserved : goal.loop-i-preserved
loop-i-preserved c =
    let next : c.args.start + (c.loop-i.i + 1) ≡ c.args.start + c.loop-i.i + 1 = omega arith in
    let left : c.args.count - (c.loop-i.i + 1) ≡ c.args.count - c.loop-i.i - 1 = omega arith in
    rw (next, left)
    (values_on _ _ _ _ _ c.from.ensures c.reads_slot.ensures (c.args.count - c.loop-i.i) (omega arith) c.in_ok-reads_slot.was ∙ c.loop-i.invariant)
