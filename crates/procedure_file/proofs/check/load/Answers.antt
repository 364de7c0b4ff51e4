use Rattle.std.proofs.lemmas.Result.{err_from_is_err_and}
use Rattle.std.proofs.Common.{sym, ◌∙◌, arith}
use Rattle.procedure_file.proofs.CheckLaws.{load_stopped, layout_whole}
use Rattle.procedure_file.proofs.check.load.Goals as goal

pub returns-in_err-layout_end : goal.returns-in_err-layout_end
returns-in_err-layout_end c =
    let p = err_from_is_err_and c.from_residual.result c.from_residual.ensures.1 in
    rw (p.1, p.2) (load_stopped c.args.file.now c.args.starts.now _ (sym c.layout_end.ensures ∙ c.in_err-layout_end.was))

pub load_laid-requires : goal.load_laid-requires
load_laid-requires c =
    layout_whole c.args.file.now c.args.starts.now
    (λ i. omega (arith, c.type_inv.file i)) _ (sym c.layout_end.ensures ∙ c.in_ok-layout_end.was)
