use Rattle.std.proofs.Common.{sym, ◌∙◌, arith}
use Rattle.std.proofs.lemmas.Result.{err_from_is_err_and}
use Rattle.target_layout.specs.FileLaws.{function_bound_lem, function_outside, function_in_lem}
use mathlib.Core.Bool.{false}
use mathlib.Core.List.{[]}
use Rattle.target_layout.proofs.layout.function_end.Goals as goal

pub entry_kinds-requires : goal.entry_kinds-requires
entry_kinds-requires c =
    (function_bound_lem false [] _ _ _ (sym c.count_at.ensures ∙ c.in_ok-n.was)).0

pub overflow_add-at : goal.overflow_add-at
overflow_add-at c =
    let h = function_bound_lem false [] _ _ _ (sym c.count_at.ensures ∙ c.in_ok-n.was) in
    let i = h.1 in
    omega arith

pub returns-in_err-n : goal.returns-in_err-n
returns-in_err-n c =
    let p = err_from_is_err_and c.from_residual.result c.from_residual.ensures.1 in
    rw (p.1, p.2) (function_outside _ _ _ _ _ (sym c.count_at.ensures ∙ c.in_err-n.was))

pub returns : goal.returns
returns c =
    function_in_lem _ _ _ _ _ _ (sym c.count_at.ensures ∙ c.in_ok-n.was) c.entry_kinds.ensures c.body_end.ensures
