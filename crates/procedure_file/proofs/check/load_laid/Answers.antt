use Rattle.std.proofs.lemmas.Result.{err_from_is_err_and}
use Rattle.procedure_file.proofs.CheckLaws.{load_wrong, load_right}
use Rattle.procedure_file.proofs.check.load_laid.Goals as goal

pub returns-in_err-file_named : goal.returns-in_err-file_named
returns-in_err-file_named c =
    let p = err_from_is_err_and c.from_residual.result c.from_residual.ensures.1 in
    rw (p.1, p.2) (load_wrong c.args.file.now c.args.starts.now c.requires _ (rw c.new.ensures at c.file_named.ensures) _ c.in_err-file_named.was)

pub returns : goal.returns
returns c =
    load_right c.args.file.now c.args.starts.now c.requires _ (rw c.new.ensures at c.file_named.ensures) _ c.in_ok-file_named.was c.fill-count.ensures.table
