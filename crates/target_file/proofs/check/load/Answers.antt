use Rattle.std.proofs.Common.{sym, ◌∙◌}
use Rattle.std.proofs.lemmas.Result.{err_from_is_err_and}
use Rattle.target_file.proofs.TablesLaws.{laid_out}
use Rattle.target_file.proofs.CheckLaws.{check_stop, check_names}
use Rattle.target_file.proofs.check.load.Goals as goal

pub names_loaded-requires : goal.names_loaded-requires
names_loaded-requires c = laid_out _ _ (sym c.code_end.ensures ∙ c.in_ok-code_end.was)

pub returns-clause-bare_stop : goal.returns-clause-bare_stop
returns-clause-bare_stop c = c.names_loaded.ensures.bare_stop ∙ check_names _ _ (sym c.code_end.ensures ∙ c.in_ok-code_end.was)

pub returns-in_err-code_end-clause-bare_stop : goal.returns-in_err-code_end-clause-bare_stop
returns-in_err-code_end-clause-bare_stop c =
    let p = err_from_is_err_and c.from_residual.result c.from_residual.ensures.1 in
    rw (p.1, p.2) (check_stop _ _ (sym c.code_end.ensures ∙ c.in_err-code_end.was))
