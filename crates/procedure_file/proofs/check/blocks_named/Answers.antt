use Rattle.std.proofs.lemmas.Result.{err_from_is_err_and}
use Rattle.std.proofs.Common.{◌∙◌}
use Rattle.procedure_file.proofs.FileNamesLaws.{entry_wrong, entry_right, label_wrong, label_right}
use Rattle.procedure_file.proofs.check.blocks_named.Goals as goal

pub returns-in_err-block_named : goal.returns-in_err-block_named
returns-in_err-block_named c =
    let p = err_from_is_err_and c.from_residual.result c.from_residual.ensures.1 in
    rw (p.1, p.2)
    (entry_wrong c.args.params.now c.args.file.now c.bytes.ensures.laid c.args.f c.args.variables c.args.labels c.requires
    _ _ c.start_of-entry.ensures (rw c.bytes.ensures.value at c.block_named.ensures) _ c.in_err-block_named.was)

pub loop-l-init : goal.loop-l-init
loop-l-init c =
    entry_right c.args.params.now c.args.file.now c.bytes.ensures.laid c.args.f c.args.variables c.args.labels c.requires
    _ _ c.start_of-entry.ensures (rw c.bytes.ensures.value at c.block_named.ensures) c.in_ok-block_named.was

pub returns-in_err-labelled_named : goal.returns-in_err-labelled_named
returns-in_err-labelled_named c =
    let p = err_from_is_err_and c.from_residual-in_err-labelled_named.result c.from_residual-in_err-labelled_named.ensures.1 in
    rw (p.1, p.2)
    (label_wrong c.args.params.now c.args.file.now c.bytes.ensures.laid c.args.f c.args.variables c.args.labels c.requires
    c.loop-l.l c.loop-l-test.true _ c.labelled_named.ensures _ c.in_err-labelled_named.was ∙ c.loop-l.invariant)

pub loop-l-preserved : goal.loop-l-preserved
loop-l-preserved c =
    label_right c.args.params.now c.args.file.now c.bytes.ensures.laid c.args.f c.args.variables c.args.labels c.requires
    c.loop-l.l c.loop-l-test.true _ c.labelled_named.ensures c.in_ok-labelled_named.was ∙ c.loop-l.invariant
