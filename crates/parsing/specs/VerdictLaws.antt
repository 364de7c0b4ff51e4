-- Verdicts joined by `or_else`: what an accepted one says of its parts.
use Rattle.parsing.specs.declared.Refusal.{Refusal}
use Rattle.parsing.specs.declared.reason.Reason.{Reason}
use Rattle.std.specs.Prelude.{ℕ, ◌≡◌, refl, Bool, true, false, Result}
use Rattle.std.proofs.Common.{ap, ◌∙◌, arith}
use Rattle.parsing.specs.Parser.{Verdict, accepted, refused, or_else, refused_unless, verdict_of}

pub or_accepted : (u v : Verdict) → or_else u v ≡ accepted → (u ≡ accepted) × (v ≡ accepted)
or_accepted accepted v e = (refl, e)
or_accepted (refused n p) v e = let z : ◌≡◌ {A = ℕ} 0 1 = cc in absurd (omega arith)

pub unless_accepted : (c : Bool) (n : Reason) (p : ℕ) → refused_unless c n p ≡ accepted → c ≡ true
unless_accepted true n p e = refl
unless_accepted false n p e = let z : ◌≡◌ {A = ℕ} 0 1 = cc in absurd (omega arith)

-- Two answers joined, as the code joins them.
pub joined_answers : (a b r : Result (Unit {0}) Refusal) {u v : Verdict} → verdict_of a ≡ u → verdict_of b ≡ v → verdict_of r ≡ or_else (verdict_of a) (verdict_of b) → verdict_of r ≡ or_else u v
joined_answers a b r {u} p q e = e ∙ ap (λ (x : Verdict). or_else x (verdict_of b)) p ∙ ap (λ (y : Verdict). or_else u y) q
