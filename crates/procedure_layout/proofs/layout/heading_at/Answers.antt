use Rattle.std.proofs.lemmas.Result.{err_from_is_err_and}
use Rattle.procedure_layout.proofs.LayoutLaws.{heading_1, heading_2, heading_3, count_inside}
use Rattle.std.proofs.Common.{◌+◌, sym, ◌∙◌, arith}
use Rattle.procedure_layout.proofs.layout.heading_at.Goals as goal

pub overflow_add-at : goal.overflow_add-at
overflow_add-at c =
    omega (arith, count_inside 0 8 c.args.file.now c.args.at _ (sym c.count_at.ensures ∙ c.in_ok-count_at.was))

pub overflow_add-at-2 : goal.overflow_add-at-2
overflow_add-at-2 c =
    omega (arith, count_inside 0 8 c.args.file.now c.args.at _ (sym c.count_at.ensures ∙ c.in_ok-count_at.was))

pub overflow_add-at-3 : goal.overflow_add-at-3
overflow_add-at-3 c =
    omega (arith, count_inside 0 24 c.args.file.now (c.args.at + 1) _ (sym c.count_at-2.ensures ∙ c.in_ok-count_at-2.was))

pub returns-in_err-count_at : goal.returns-in_err-count_at
returns-in_err-count_at c =
    let p = err_from_is_err_and c.from_residual.result c.from_residual.ensures.1 in
    rw (p.1, p.2) (sym (heading_1 _ _ _ (sym c.count_at.ensures ∙ c.in_err-count_at.was)))

pub returns-in_err-count_at-2 : goal.returns-in_err-count_at-2
returns-in_err-count_at-2 c =
    let p = err_from_is_err_and c.from_residual-in_err-count_at-2.result c.from_residual-in_err-count_at-2.ensures.1 in
    rw (p.1, p.2) (sym (heading_2 _ _ _ _ (sym c.count_at.ensures ∙ c.in_ok-count_at.was) (sym c.count_at-2.ensures ∙ c.in_err-count_at-2.was)))

pub returns : goal.returns
returns c =
    c.count_at-3.ensures ∙ sym
    (heading_3 _ _ _ _ (sym c.count_at.ensures ∙ c.in_ok-count_at.was) (sym c.count_at-2.ensures ∙ c.in_ok-count_at-2.was))
