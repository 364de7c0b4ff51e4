use Rattle.std.proofs.Common.{rules, to_z-of_z}
use Rattle.std.specs.Int.{w32}
use Rattle.bench_frames.specs.CallLaws.{argument_is, read_none, read_more}
use Rattle.bench_frames.proofs.call.arguments.Goals as goal

pub loop-i-init : goal.loop-i-init
loop-i-init c =
    read_none c.requires.arguments_in_bounds _ c.requires.vars_len

pub loop-i-preserved : goal.loop-i-preserved
loop-i-preserved c =
    read_more c.requires.arguments_in_bounds c.loop-i.invariant c.loop-i-test.true (argument_is c.requires.arguments_in_bounds _ c.argument_at.ensures c.index-y.ensures)
    (to_z-of_z {w = w32} (search rules))
