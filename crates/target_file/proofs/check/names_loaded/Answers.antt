use Rattle.std.proofs.lemmas.Result.{err_from_is_err_and}
use mathlib.Core.Path.{refl, sym, ◌∙◌}
use native.Mathlib.Omega.{arith}
use Rattle.target_file.proofs.TablesLaws.{laid_file}
use Rattle.target_file.proofs.CheckLaws.{names_past, names_stop}
use lib.Seq.{length-take-le}
use Rattle.target_file.proofs.check.names_loaded.Goals as goal

pub bounds-file-5 : goal.bounds-file-5
bounds-file-5 c =
    let f = laid_file _ c.requires in
    let w = f.whole in
    omega arith

pub bounds-file-6 : goal.bounds-file-6
bounds-file-6 c =
    let f = laid_file _ c.requires in
    let w = f.whole in
    omega arith

pub slice_bounds-params-end : goal.slice_bounds-params-end
slice_bounds-params-end c =
    let f = laid_file _ c.requires in
    let n = c.pair-n.ensures ∙ f.counted in
    let m = f.most in
    let b = c.tables_of-tables.ensures.counts_length in
    omega arith

pub slice_bounds-code_end-end : goal.slice_bounds-code_end-end
slice_bounds-code_end-end c =
    let f = laid_file _ c.requires in
    let n = c.pair-n.ensures ∙ f.counted in
    let m = f.most in
    let b = c.tables_of-tables.ensures.counts_length in
    sym (length-take-le _ _ (omega arith))

pub returns-in_err-code_end-clause-bare_stop : goal.returns-in_err-code_end-clause-bare_stop
returns-in_err-code_end-clause-bare_stop c =
    let p = err_from_is_err_and c.from_residual.result c.from_residual.ensures.1 in
    rw (p.1, p.2)
    (names_stop _ _ _ _ (c.pair-n.ensures ∙ (laid_file _ c.requires).counted) refl c.tables_of-tables.ensures.counts _ (sym c.code_end.ensures ∙ c.in_err-code_end.was))

pub returns-clause-bare_stop : goal.returns-clause-bare_stop
returns-clause-bare_stop c =
    names_past _ _ _ _ (c.pair-n.ensures ∙ (laid_file _ c.requires).counted) refl c.tables_of-tables.ensures.counts _ (sym c.code_end.ensures ∙ c.in_ok-code_end.was)
