use Rattle.std.proofs.Common.{◌≡◌, ◌+◌, ◌-◌}
use Rattle.target_names.specs.Names.{values}
use Rattle.target_names.proofs.names.reads_values.Given as goal

abbrev pub invariant-loop-i : goal.invariant-loop-i
invariant-loop-i l = values l.slots l.kinds l.file (l.start + l.i) (l.count - l.i) ≡ values l.slots l.kinds l.file l.start l.count
