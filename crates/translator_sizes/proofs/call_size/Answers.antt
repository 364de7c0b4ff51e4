use Rattle.translator_bytes.proofs.JumpLaws.{plain_sum, guarded_sum}
use native.Mathlib.Omega.{arith}
use Rattle.translator_sizes.proofs.call_size.Goals as goal

pub returns-then-u-eq0 : goal.returns-then-u-eq0
returns-then-u-eq0 c =
    (plain_sum c.args.u c.args.n c.if-u-eq0.true (omega arith), omega (arith, c.jump_size-inner.ensures, c.requires.1))

pub returns-else-u-eq0 : goal.returns-else-u-eq0
returns-else-u-eq0 c = (
  guarded_sum c.args.u c.args.n c.if-u-eq0.false (omega arith) (omega arith) c.size_if_any-number.ensures.0,
  omega (
    arith,
    c.jump_size-inner.ensures,
    c.jump_size-other.ensures,
    c.size_if_any-number.ensures.1,
    c.requires.0,
    c.requires.1,
  ),
)
