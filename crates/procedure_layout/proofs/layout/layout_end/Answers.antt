use Rattle.std.proofs.lemmas.Result.{err_from_is_err_and}
use Rattle.procedure_layout.proofs.LayoutLaws.{program_1, program_2, program_3, program_4}
use Rattle.std.proofs.Common.{◌≡◌, ℕ, sym, ◌∙◌, rules}
use Rattle.parsing.specs.Parser.{past_of, many}
use Rattle.parsing.specs.ParserLaws.{past_parts}
use Rattle.procedure_layout.specs.Layout.{function}
use Rattle.procedure_layout.proofs.layout.layout_end.Goals as goal

pub returns-in_err-head_end : goal.returns-in_err-head_end
returns-in_err-head_end c =
    let p = err_from_is_err_and c.from_residual.result c.from_residual.ensures.1 in
    rw (p.1, p.2) (sym (program_1 _ _ (sym c.head_end.ensures ∙ c.in_err-head_end.was)))

pub returns-in_err-n : goal.returns-in_err-n
returns-in_err-n c =
    let p = err_from_is_err_and c.from_residual-in_err-n.result c.from_residual-in_err-n.ensures.1 in
    rw (p.1, p.2) (sym (program_2 _ _ (sym c.head_end.ensures ∙ c.in_ok-head_end.was) _ (sym c.count_at.ensures ∙ c.in_err-n.was)))

pub returns-in_err-end : goal.returns-in_err-end
returns-in_err-end c =
    let p = err_from_is_err_and c.from_residual-in_err-end.result c.from_residual-in_err-end.ensures.1 in
    let parts : c.many_end.result ≡ past_of (many c.in_ok-n.n function c.args.file.now 6) =
    c.many_end.ensures (λ (at : ℕ). past_of (function c.args.file.now at)) (λ at end small given. search rules)
    ∙ past_parts function c.args.file.now c.in_ok-n.n 6 in
    rw (p.1, p.2)
    (sym (program_3 _ _ (sym c.head_end.ensures ∙ c.in_ok-head_end.was) _ (sym c.count_at.ensures ∙ c.in_ok-n.was) _
    (sym parts ∙ c.in_err-end.was)))

pub returns : goal.returns
returns c =
    let parts : c.many_end.result ≡ past_of (many c.in_ok-n.n function c.args.file.now 6) =
    c.many_end.ensures (λ (at : ℕ). past_of (function c.args.file.now at)) (λ at end small given. search rules)
    ∙ past_parts function c.args.file.now c.in_ok-n.n 6 in
    c.file_end.ensures ∙ sym
    (program_4 _ _ (sym c.head_end.ensures ∙ c.in_ok-head_end.was) _ (sym c.count_at.ensures ∙ c.in_ok-n.was) _
    (sym parts ∙ c.in_ok-end.was))
