use Rattle.procedure_layout.proofs.LayoutLaws.{block_onward, block_ended, block_halted, onward_moves}
use Rattle.procedure_layout.specs.After.{after_of}
use native.Mathlib.Omega.{arith}
use mathlib.Core.Path.{sym, ap, ◌∙◌}
use Rattle.procedure_layout.proofs.layout.block_end.Goals as goal

pub loop-next-smaller : goal.loop-next-smaller
loop-next-smaller c =
    let m = onward_moves c.args.file.now c.loop-next.at c.in-Onward.next
    (ap after_of (sym c.operation_at.ensures) ∙ sym c.after_of.ensures ∙ c.in-Onward.is) in
    omega (arith, m.0, m.1)

pub loop-next-preserved : goal.loop-next-preserved
loop-next-preserved c =
    sym
    (block_onward c.args.file.now c.loop-next.at c.in-Onward.next
    (ap after_of (sym c.operation_at.ensures) ∙ sym c.after_of.ensures ∙ c.in-Onward.is))
    ∙ c.loop-next.invariant

pub returns-in-Ended : goal.returns-in-Ended
returns-in-Ended c =
    sym
    (block_ended c.args.file.now c.loop-next.at c.in-Ended.next
    (ap after_of (sym c.operation_at.ensures) ∙ sym c.after_of.ensures ∙ c.in-Ended.is))
    ∙ c.loop-next.invariant

pub returns-in-Halted : goal.returns-in-Halted
returns-in-Halted c =
    sym
    (block_halted c.args.file.now c.loop-next.at c.in-Halted.r
    (ap after_of (sym c.operation_at.ensures) ∙ sym c.after_of.ensures ∙ c.in-Halted.is))
    ∙ c.loop-next.invariant
