use Rattle.translator_bytes.proofs.JumpLaws.{value_uncaught_sum, value_caught_sum}
use native.Mathlib.Omega.{arith}
use Rattle.translator_bytes.proofs.jumps.raise_value_size.Goals as goal

pub returns-then-u-eq0 : goal.returns-then-u-eq0
returns-then-u-eq0 c =
    (value_uncaught_sum c.args.u c.if-u-eq0.true, omega arith)

pub returns-else-u-eq0 : goal.returns-else-u-eq0
returns-else-u-eq0 c = (
  value_caught_sum c.args.u c.if-u-eq0.false c.size_if_any-first.ensures.0 (omega arith),
  omega (arith, c.size_if_any-first.ensures.1, c.jump_size-jump.ensures, c.requires),
)
