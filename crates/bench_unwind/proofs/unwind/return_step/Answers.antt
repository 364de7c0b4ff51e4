use Rattle.std.proofs.Common.{arith, rules, to_z-of_z}
use Rattle.std.specs.Int.{w32}
use Rattle.bench_unwind.specs.UnwindLaws.{frame_safe, return_value, last_below, return_frame}
use Rattle.bench_unwind.proofs.unwind.return_step.Goals as goal

pub returns-then-r-eq0 : goal.returns-then-r-eq0
returns-then-r-eq0 c =
    return_value c.requires.file_invariant c.requires.standing c.requires.at_value c.index.ensures (to_z-of_z {w = w32} (search rules)) c.if-r-eq0.true

pub offset_bounds-vars-h : goal.offset_bounds-vars-h
offset_bounds-vars-h c = omega (arith, (frame_safe c.requires.file_invariant c.requires.standing (last_below c.requires.file_invariant c.requires.standing c.if-r-eq0.false) c.head_at-h.ensures).result)

pub bounds-vars-h : goal.bounds-vars-h
bounds-vars-h c = (frame_safe c.requires.file_invariant c.requires.standing (last_below c.requires.file_invariant c.requires.standing c.if-r-eq0.false) c.head_at-h.ensures).result

pub returns : goal.returns
returns c =
    return_frame c.requires.file_invariant c.requires.standing c.requires.at_value c.index.ensures (to_z-of_z {w = w32} (search rules)) c.if-r-eq0.false
    c.head_at-h.ensures c.copy.ensures
