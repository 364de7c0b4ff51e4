use Rattle.std.proofs.Common.{◌≡◌, ◌+◌, ◌≤◌, length}
use Rattle.procedure_names.specs.NamedLaws.{arguments_left}
use Rattle.procedure_names.proofs.names.arguments_named.Given as goal

abbrev pub invariant-loop-place : goal.invariant-loop-place
invariant-loop-place l = (room : l.at + 4 + l.count ≤ length l.file) × (l.at + 4 ≤ l.place) ×
    (arguments_left l.file l.variables l.at l.count room l.place ≡ arguments_left l.file l.variables l.at l.count room (l.at + 4))
