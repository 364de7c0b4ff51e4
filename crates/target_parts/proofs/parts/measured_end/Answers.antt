use Rattle.target_parts.specs.PartsLaws.{measured_stopped, measured_back, measured_right, measured_unlike}
use Rattle.std.proofs.lemmas.Result.{err_from_is_err_and}
use Rattle.target_parts.proofs.parts.measured_end.Goals as goal
use Rattle.target_parts.proofs.parts.measured_end.Goals.{else-at-next-via-then-at-next+else-next-at, else-at-next-via-else-at-next}

pub returns-then-next-at : goal.returns-then-next-at
returns-then-next-at c =
    measured_right _ _ _ _ c.in_ok-next.was c.if-at-next.true c.if-next-at.true

pub returns-in_err-next : goal.returns-in_err-next
returns-in_err-next c =
    let p = err_from_is_err_and c.from_residual.result c.from_residual.ensures.1 in
    rw (p.1, p.2) (measured_stopped _ _ _ _ c.in_err-next.was)

pub returns : goal.returns
returns c =
    elim c.else-at-next.branch [
      | else-at-next-via-then-at-next+else-next-at w ↦ measured_unlike _ _ _ _ c.in_ok-next.was w.if-at-next.true w.if-next-at.false
      | else-at-next-via-else-at-next w ↦ measured_back _ _ _ _ c.in_ok-next.was w.if-at-next.false
    ]
