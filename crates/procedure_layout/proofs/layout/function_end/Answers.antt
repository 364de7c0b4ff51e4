use Rattle.std.proofs.lemmas.Result.{err_from_is_err_and}
use Rattle.procedure_layout.proofs.LayoutLaws.{function_1, function_2, function_3, function_inside}
use Rattle.std.proofs.Common.{ℕ, sym, ◌∙◌, arith, rules}
use Rattle.parsing.specs.Parser.{past_of}
use Rattle.parsing.specs.ParserLaws.{past_parts}
use Rattle.procedure_layout.specs.Layout.{labelled}
use Rattle.procedure_layout.proofs.layout.function_end.Goals as goal

pub overflow_add-at : goal.overflow_add-at
overflow_add-at c =
    omega (arith, function_inside c.args.file.now c.args.at c.in_ok-n.n (sym c.heading_at.ensures ∙ c.in_ok-n.was))

pub returns-in_err-n : goal.returns-in_err-n
returns-in_err-n c =
    let p = err_from_is_err_and c.from_residual.result c.from_residual.ensures.1 in
    rw (p.1, p.2) (sym (function_1 _ _ _ (sym c.heading_at.ensures ∙ c.in_err-n.was)))

pub returns-in_err-next : goal.returns-in_err-next
returns-in_err-next c =
    let p = err_from_is_err_and c.from_residual-in_err-next.result c.from_residual-in_err-next.ensures.1 in
    rw (p.1, p.2) (sym (function_2 _ _ _ _ (sym c.heading_at.ensures ∙ c.in_ok-n.was) (sym c.block_end.ensures ∙ c.in_err-next.was)))

pub returns : goal.returns
returns c =
    c.many_end.ensures (λ (at : ℕ). past_of (labelled c.args.file.now at)) (λ at end small given. search rules)
    ∙ past_parts labelled c.args.file.now c.in_ok-n.n c.in_ok-next.next ∙ sym
    (function_3 _ _ _ _ (sym c.heading_at.ensures ∙ c.in_ok-n.was) (sym c.block_end.ensures ∙ c.in_ok-next.was))
