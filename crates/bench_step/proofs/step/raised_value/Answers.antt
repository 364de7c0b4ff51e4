use Rattle.std.proofs.Common.{rules, to_z-of_z}
use Rattle.std.specs.Int.{w32}
use Rattle.bench_step.specs.StepLaws.{value_raises}
use Rattle.bench_step.proofs.step.raised_value.Goals as goal

pub returns : goal.returns
returns c =
    value_raises c.requires.file_invariant c.requires.standing c.requires.at_value c.index.ensures (to_z-of_z {w = w32} (search rules))
