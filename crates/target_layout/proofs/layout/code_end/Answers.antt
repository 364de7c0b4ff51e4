use Rattle.std.proofs.Common.{◌≡◌, ℕ, sym, ◌∙◌, rules}
use Rattle.std.proofs.lemmas.Result.{err_from_is_err_and}
use Rattle.parsing.specs.Parser.{past_of, many}
use Rattle.parsing.specs.ParserLaws.{past_parts}
use Rattle.parsing.specs.BytesAtLaws.{past_head}
use Rattle.target_layout.specs.Layout.{function}
use Rattle.target_layout.specs.FileLaws.{head_refused, count_refused, functions_refused, functions_past}
use Rattle.target_layout.proofs.layout.code_end.Goals as goal

pub returns-in_err-head_end : goal.returns-in_err-head_end
returns-in_err-head_end c =
    let p = err_from_is_err_and c.from_residual.result c.from_residual.ensures.1 in
    rw (p.1, p.2) (head_refused _ _ _ _ (sym c.head_end.ensures ∙ c.in_err-head_end.was))

pub returns-in_err-n : goal.returns-in_err-n
returns-in_err-n c =
    let p = err_from_is_err_and c.from_residual-in_err-n.result c.from_residual-in_err-n.ensures.1 in
    rw (p.1, p.2) (count_refused _ _ _ _ (sym c.head_end.ensures ∙ c.in_ok-head_end.was) _ (sym c.functions_at.ensures ∙ c.in_err-n.was))

pub many_end-requires : goal.many_end-requires
many_end-requires c =
    let inside = (past_head _ _ _ (sym c.head_end.ensures ∙ c.in_ok-head_end.was)).0 in
    search rules

pub returns-in_err-end : goal.returns-in_err-end
returns-in_err-end c =
    let p = err_from_is_err_and c.from_residual-in_err-end.result c.from_residual-in_err-end.ensures.1 in
    let parts : c.many_end.result ≡ past_of (many c.in_ok-n.n (function c.args.names c.args.params.now) c.args.file.now 7) =
    c.many_end.ensures (λ (at : ℕ). past_of (function c.args.names c.args.params.now c.args.file.now at)) (λ at end small given. search rules)
    ∙ past_parts (function c.args.names c.args.params.now) c.args.file.now c.in_ok-n.n 7 in
    rw (p.1, p.2)
    (functions_refused _ _ _ _ (sym c.head_end.ensures ∙ c.in_ok-head_end.was) _ (sym c.functions_at.ensures ∙ c.in_ok-n.was) _
    (sym parts ∙ c.in_err-end.was))

pub returns : goal.returns
returns c =
    let parts : c.many_end.result ≡ past_of (many c.in_ok-n.n (function c.args.names c.args.params.now) c.args.file.now 7) =
    c.many_end.ensures (λ (at : ℕ). past_of (function c.args.names c.args.params.now c.args.file.now at)) (λ at end small given. search rules)
    ∙ past_parts (function c.args.names c.args.params.now) c.args.file.now c.in_ok-n.n 7 in
    c.file_end.ensures ∙ functions_past _ _ _ _ (sym c.head_end.ensures ∙ c.in_ok-head_end.was) _ (sym c.functions_at.ensures ∙ c.in_ok-n.was) _
    (sym parts ∙ c.in_ok-end.was)
