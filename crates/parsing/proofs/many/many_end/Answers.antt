use Rattle.std.proofs.lemmas.Result.{err_from_is_err_and}
use Rattle.std.proofs.Common.{sym, ◌∙◌, arith}
use Rattle.parsing.specs.ParserLaws.{past_turn, past_halt, past_last}
use Rattle.parsing.proofs.many.many_end.Goals as goal

pub returns-in_err-at : goal.returns-in_err-at
returns-in_err-at g c past known =
    let p = err_from_is_err_and c.from_residual.result c.from_residual.ensures.1 in
    let i = c.loop.invariant in
    rw (p.1, p.2)
    (past_halt past _ _ c.loop.at c.loop-test.true (sym (known c.loop.at c.part.result i.0 c.part.ensures) ∙ c.in_err-at.was) ∙ i.1 past known)

pub loop-preserved : goal.loop-preserved
loop-preserved g c =
    let i = c.loop.invariant in
    let fits = rw c.in_ok-at.was at c.part.type_inv in
    (omega arith, λ past known. past_turn past _ _ c.loop.at c.loop-test.true (sym (known c.loop.at c.part.result i.0 c.part.ensures) ∙ c.in_ok-at.was) ∙ i.1 past known)

pub returns : goal.returns
returns g c past known =
    past_last past _ _ c.loop.at c.loop-test.false ∙ c.loop.invariant.1 past known
