use Rattle.std.proofs.Common.{◌≡◌, drop}
use Rattle.case_fields.specs.Words.{every}
use Rattle.case_fields.proofs.words.all_are.Given as goal

abbrev pub invariant-loop-w : goal.invariant-loop-w
invariant-loop-w l = every l.x (drop l.w-index l.words) ≡ every l.x l.words
