use Rattle.std.proofs.lemmas.Result.{err_from_is_err_and}
use Rattle.std.proofs.Common.{sym, ◌∙◌, arith}
use Rattle.target_parts.specs.PartsLaws.{pair_inside}
use Rattle.target_expressions.proofs.EndLaws.{body_cut, body_in}
use Rattle.target_expressions.proofs.expressions.body_end.Goals as goal

pub overflow_add-start : goal.overflow_add-start
overflow_add-start c = omega (arith, pair_inside _ _ (sym c.size_at.ensures ∙ c.in_ok-size.was), c.requires)

pub expression_end-body-requires-clause-start_in_bounds : goal.expression_end-body-requires-clause-start_in_bounds
expression_end-body-requires-clause-start_in_bounds c = pair_inside _ _ (sym c.size_at.ensures ∙ c.in_ok-size.was)

pub returns-in_err-size : goal.returns-in_err-size
returns-in_err-size c =
    let p = err_from_is_err_and c.from_residual.result c.from_residual.ensures.1 in
    rw (p.1, p.2) (body_cut _ _ _ _ _ (sym c.size_at.ensures ∙ c.in_err-size.was))

pub returns : goal.returns
returns c = c.measured_end.ensures ∙ body_in _ _ _ _ _ _ (sym c.size_at.ensures ∙ c.in_ok-size.was) c.expression_end-body.ensures
