-- What follows from what a call tells.
use Rattle.parsing.specs.declared.Refusal.{Refusal}
use Rattle.std.specs.Prelude.{ℕ, ◌≡◌, refl, Err, Ok, Result}
use Rattle.std.proofs.Common.{arith}
use Rattle.parsing.specs.Parser.{verdict_of}
use Rattle.runs.specs.Tells.{tells, by_verdict}

-- A call that answers accepted the call, and answers this.
pub answered : {A : Type 0} (v : Result (Unit {0}) Refusal) (a b : A) → by_verdict (verdict_of v) a ≡ tells b → (v ≡ (Ok tt)) × (a ≡ b)
answered (Ok tt) a b e = (refl, cc e)
answered (Err r) a b e = let z : ◌≡◌ {A = ℕ} 0 1 = cc in absurd (omega arith)
