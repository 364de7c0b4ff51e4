use Rattle.bench_unwind.specs.Raises.{leaving}
use Rattle.bench_unwind.specs.EnterLaws.{zero_leaves, zero_unbound}
use Rattle.std.proofs.Common.{rules}
use Rattle.bench_unwind.proofs.unwind.leaving.Goals as goal
use Rattle.bench_unwind.proofs.unwind.leaving.Goals.{else-zero-via-then-zero+else-version_of-eq2, else-zero-via-else-zero}

pub returns-then-version_of-eq2 : goal.returns-then-version_of-eq2
returns-then-version_of-eq2 c = zero_leaves c.version_of.ensures _ c.if-zero.true c.if-version_of-eq2.true

pub returns-else-zero : goal.returns-else-zero
unfolding leaving
returns-else-zero c =
    elim c.else-zero.branch [
      | else-zero-via-then-zero+else-version_of-eq2 w ↦ zero_unbound w.version_of.ensures _ w.if-zero.true w.if-version_of-eq2.false
      | else-zero-via-else-zero w ↦ search rules
    ]
