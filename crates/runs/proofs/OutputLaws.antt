-- A call that writes w at the front of the output d: its answer and its output, by what was checked.
use Rattle.std.specs.Prelude.{ℕ, ◌≡◌, refl, List, ◌++◌, length, drop, Err, Ok, Result}
use Rattle.std.proofs.Common.{zero-add, sym, ap, ◌∙◌, subst}
use Rattle.parsing.specs.declared.Refusal.{Refusal}
use Rattle.parsing.specs.Parser.{Verdict, verdict_of, or_else}
use Rattle.memory.specs.Lay.{lay}
use Rattle.runs.specs.Tells.{Tells, refuses, tells, by_verdict, leaves}

-- Written at the front: the part, then what stood behind it.
pub lay_front : (w d : List ℕ) → lay 0 w d ≡ w ++ drop (length w) d
unfolding lay
lay_front w d = ap (λ (k : ℕ). w ++ drop k d) (zero-add (length w))

-- The answer x and the output d' under a verdict.
pub record Answered (v : Verdict) (w d : List ℕ) (x : Tells ℕ) (d' : List ℕ) : Type 0 where
  pub answer : x ≡ by_verdict v (length w)
  pub output : d' ≡ leaves v w d

module _ (w d : List ℕ) {c : Result (Unit {0}) Refusal} {v : Verdict} (e : verdict_of c ≡ v) where
  -- By the last check.
  pub check_refused : {r : Refusal} → c ≡ Err r → Answered v w d (refuses r.reason r.place) d
  check_refused {r} q =
      subst (λ (k : Verdict). Answered k w d (refuses r.reason r.place) d) (ap verdict_of (sym q) ∙ e) (record { answer = refl; output = refl })

  pub check_written : c ≡ (Ok tt) → {n : ℕ} {d' : List ℕ} → n ≡ length w → d' ≡ lay 0 w d → Answered v w d (tells n) d'
  check_written q {n} {d'} is laid =
      subst (λ (k : Verdict). Answered k w d (tells n) d') (ap verdict_of (sym q) ∙ e) (record { answer = ap tells is; output = laid ∙ lay_front w d })

  -- By a check before another verdict u.
  module _ (u : Verdict) where
    pub answer_refused : {r : Refusal} → c ≡ Err r → Answered (or_else v u) w d (refuses r.reason r.place) d
    answer_refused {r} q =
        subst (λ (k : Verdict). Answered (or_else k u) w d (refuses r.reason r.place) d) (ap verdict_of (sym q) ∙ e) (record { answer = refl; output = refl })

    pub answer_accepted : c ≡ (Ok tt) → {x : Tells ℕ} {d' : List ℕ} → Answered u w d x d' → Answered (or_else v u) w d x d'
    answer_accepted q {x} {d'} A = subst (λ (k : Verdict). Answered (or_else k u) w d x d') (ap verdict_of (sym q) ∙ e) A
