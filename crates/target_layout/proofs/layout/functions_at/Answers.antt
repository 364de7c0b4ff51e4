use Rattle.std.proofs.Common.{sym, ◌∙◌}
use Rattle.std.proofs.lemmas.Result.{err_from_is_err_and}
use Rattle.target_layout.specs.FileLaws.{functions_cut, functions_none, functions_many, functions_some}
use Rattle.target_layout.proofs.layout.functions_at.Goals as goal
use Rattle.target_layout.proofs.layout.functions_at.Goals.{else-n-ge1-via-then-n-ge1+else-n-le-MAX_FUNCTIONS, else-n-ge1-via-else-n-ge1}

pub returns-in_err-n : goal.returns-in_err-n
returns-in_err-n c =
    let p = err_from_is_err_and c.from_residual.result c.from_residual.ensures.1 in
    rw (p.1, p.2) (functions_cut _ _ (sym c.size_at.ensures ∙ c.in_err-n.was))

pub returns-then-n-le-MAX_FUNCTIONS : goal.returns-then-n-le-MAX_FUNCTIONS
returns-then-n-le-MAX_FUNCTIONS c =
    functions_some _ _ _ (sym c.size_at.ensures ∙ c.in_ok-n.was) c.if-n-ge1.true c.if-n-le-MAX_FUNCTIONS.true

pub returns : goal.returns
returns c =
    let is = sym c.size_at.ensures ∙ c.in_ok-n.was in
    elim c.else-n-ge1.branch [
      | else-n-ge1-via-then-n-ge1+else-n-le-MAX_FUNCTIONS w ↦ functions_many _ _ _ is w.if-n-ge1.true w.if-n-le-MAX_FUNCTIONS.false
      | else-n-ge1-via-else-n-ge1 w ↦ functions_none _ _ _ is w.if-n-ge1.false
    ]
