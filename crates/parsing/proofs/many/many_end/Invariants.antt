use Rattle.std.proofs.Common.{◌≡◌, ℕ, ◌-◌, ◌<◌, Result}
use Rattle.parsing.specs.declared.Refusal.{Refusal}
use Rattle.parsing.specs.Parser.{past_many}
use Rattle.parsing.proofs.many.many_end.Given as goal

abbrev pub invariant-loop : goal.invariant-loop
invariant-loop g l =
    (l.at < 18446744073709551616) × ((past : ℕ → Result ℕ Refusal) → ((at : ℕ) (end : Result ℕ Refusal) → at < 18446744073709551616 → goal.F-post g l.part at end → end ≡ past at)
    → past_many (l.n - l.counter) past l.at ≡ past_many l.n past l.start)
