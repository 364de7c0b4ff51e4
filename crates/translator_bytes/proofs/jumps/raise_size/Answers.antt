use Rattle.translator_bytes.proofs.JumpLaws.{uncaught_end, caught_end, raise_sum}
use native.Mathlib.Omega.{arith}
use Rattle.translator_bytes.proofs.jumps.raise_size.Goals as goal

pub returns-then-u-eq0 : goal.returns-then-u-eq0
returns-then-u-eq0 c = (
  raise_sum c.args.u c.size_if_any-first.ensures.0 (uncaught_end c.args.u c.if-u-eq0.true c.size_if_any-last.ensures.0),
  omega (arith, c.size_if_any-first.ensures.1, c.size_if_any-last.ensures.1),
)

pub returns-else-u-eq0 : goal.returns-else-u-eq0
returns-else-u-eq0 c = (
  raise_sum c.args.u c.size_if_any-first.ensures.0 (caught_end c.args.u c.if-u-eq0.false (omega arith)),
  omega (arith, c.size_if_any-first.ensures.1, c.jump_size-jump.ensures, c.requires),
)
