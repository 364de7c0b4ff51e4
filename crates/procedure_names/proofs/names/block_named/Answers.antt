use Rattle.std.proofs.lemmas.Result.{err_from_is_err_and}
use Rattle.std.proofs.Common.{sym, ap, ◌∙◌, arith, inl, inr}
use Rattle.procedure_layout.specs.After.{after_of}
use Rattle.procedure_layout.proofs.LayoutLaws.{onward_moves}
use Rattle.procedure_names.specs.NamedLaws.{turn_wrong, turn_on, turn_last, not_ended, not_halted}
use Rattle.procedure_names.proofs.names.block_named.Goals as goal

pub returns-in_err-operation_named : goal.returns-in_err-operation_named
returns-in_err-operation_named c =
    let p = err_from_is_err_and c.from_residual.result c.from_residual.ensures.1 in
    rw (p.1, p.2)
    (turn_wrong c.args.params.now c.args.variables c.args.labels c.args.file.now c.loop-next.at c.operation_at-o.result
    c.operation_named.result c.operation_at-o.ensures c.operation_named.ensures _
    c.in_err-operation_named.was ∙ c.loop-next.invariant)

pub loop-next-smaller : goal.loop-next-smaller
loop-next-smaller c =
    let m = onward_moves c.args.file.now c.loop-next.at c.in-Onward.next
    (ap after_of (sym c.operation_at-o.ensures) ∙ sym c.after_of.ensures ∙ c.in-Onward.is) in
    omega (arith, m.0, m.1)

pub loop-next-preserved : goal.loop-next-preserved
loop-next-preserved c =
    turn_on c.args.params.now c.args.variables c.args.labels c.args.file.now c.loop-next.at c.operation_at-o.result
    c.operation_named.result c.operation_at-o.ensures c.operation_named.ensures c.in-Onward.next _
    c.in_ok-operation_named.was c.after_of.ensures c.in-Onward.is ∙ c.loop-next.invariant

pub returns-in-Ended : goal.returns-in-Ended
returns-in-Ended c =
    turn_last c.args.params.now c.args.variables c.args.labels c.args.file.now c.loop-next.at c.operation_at-o.result
    c.operation_named.result c.operation_at-o.ensures c.operation_named.ensures _ c.in_ok-operation_named.was
    c.after_of.ensures (λ next w. elim c.in-Ended.is [ inl e ↦ not_ended _ _ next e.1 w | inr e ↦ not_halted _ _ next e.1 w ]) ∙ c.loop-next.invariant
