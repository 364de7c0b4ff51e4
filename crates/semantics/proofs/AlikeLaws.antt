-- Document 02, Slip 4, on the controller: where two benches run alike, so do two controllers that agree with them, at every budget.
use Rattle.std.specs.Prelude.{ℕ, zero, suc, ◌+◌, ◌≤◌, ◌<◌, ◌≡◌, refl, ◌↔◌, ◌⊎◌, Bool, true, false, cond, List, [], leb, ℤ}
use Rattle.std.proofs.Common.{arith, ap, ◌∙◌, subst, inl, inr, leb-true, leb-false}
use Rattle.std.proofs.Math.Path.{sym}
use Rattle.semantics.specs.Program.{FunctionNumber, Program, function_of}
use Rattle.semantics.specs.Run.{Outcome, next, end, too_deep, stuck, Stop, ended, spent, deep, broken, IsSpent, IsDeep, IsBroken, Result, bare_stop, one_more_if_deep, taken, run, Forever, summary}
use Rattle.semantics.specs.Bench.{State, begun, step, bench}
use Rattle.semantics.specs.Code.{Code}
use Rattle.semantics.specs.Controller.{Control, started, control_step, controller}
use Rattle.semantics.specs.Extras.{extras}
use Rattle.semantics.specs.Statement.{Agree}
use Rattle.semantics.specs.Merge.{RunsAlike}
use Rattle.semantics.proofs.StopLaws.{early, bench_again, controller_left, Together, together}

-- A bench run and a controller run that agree, neither of them ever stuck.
pub record Paired (P : Program) (f : FunctionNumber) (Q : Code) (g : ℕ) (args : List ℤ) (d : ℕ) : Type 0 where
  pub agree : Agree P (bench P f args d) (extras P f args d) (controller Q g args d)
  pub bench_moves : (n : ℕ) → ¬ IsBroken (bench P f args d n).stop
  pub controller_moves : (n : ℕ) → ¬ IsBroken (controller Q g args d n).stop

-- ── How a run stopped, and when ───────────────────────────────────────────────────────────────────

is_spent : (y : Stop (Unit {0})) → y ≡ spent tt → IsSpent y
is_spent y q = subst (λ (z : Stop (Unit {0})). IsSpent z) (sym q) tt

module _ {S : Type 0} where
  bare_spent : (x : Stop S) → IsSpent x ↔ (bare_stop x ≡ spent tt)
  bare_spent (ended e) = (λ i. absurd i, is_spent (ended e))
  bare_spent (spent s) = (λ i. refl, λ q. tt)
  bare_spent (deep s) = (λ i. absurd i, is_spent (deep tt))
  bare_spent (broken s) = (λ i. absurd i, is_spent (broken tt))

  pub one_more_bare : (x : Stop S) → one_more_if_deep (bare_stop x) ≡ one_more_if_deep x
  one_more_bare (ended e) = refl
  one_more_bare (spent s) = refl
  one_more_bare (deep s) = refl
  one_more_bare (broken s) = refl

  spent_or_not : (x : Stop S) → IsSpent x ⊎ (¬ IsSpent x)
  spent_or_not (ended e) = inr (λ i. i)
  spent_or_not (spent s) = inl tt
  spent_or_not (deep s) = inr (λ i. i)
  spent_or_not (broken s) = inr (λ i. i)

  one_more_bound : (x : Stop S) (k n : ℕ) → k ≤ n → (IsDeep x → k < n) → k + one_more_if_deep x ≤ n
  one_more_bound (ended e) k n l h = omega arith
  one_more_bound (spent s) k n l h = omega arith
  one_more_bound (deep s) k n l h = let q : k < n = h tt in omega arith
  one_more_bound (broken s) k n l h = omega arith
  -- A result without its state.

-- A spent run took all its steps.
spent_steps : {S : Type 0} (step : S → Outcome S) (n : ℕ) (s : S) → IsSpent (run step n s).stop → (run step n s).steps ≡ n
spent_steps step zero s i = refl
spent_steps {S} step (suc n) s i = by (step s) (λ (t : S). spent_steps step n t) i
  where
    by : (o : Outcome S) → ((t : S) → IsSpent (run step n t).stop → (run step n t).steps ≡ n)
        → IsSpent (taken o s (λ t. run step n t)).stop → (taken o s (λ t. run step n t)).steps ≡ suc n
    by (next t) later i = let e : (run step n t).steps ≡ n = later t i in omega arith
    by (end e) later i = absurd i
    by too_deep later i = absurd i
    by stuck later i = absurd i

-- ── The controller, told by the bench ───────────────────────────────────────────────────────────

-- What a controller answers to the budget n, where the bench with that budget stopped as x and k is bench steps + extras: as the bench, if n
-- reaches so far.
abbrev summary_at : Stop (Unit {0}) → ℕ → ℕ → Result (Unit {0})
summary_at x k n = cond (leb (k + one_more_if_deep x) n) (record { stop = x; steps = k }) (record { stop = spent tt; steps = n })

module _ {P : Program} {f : FunctionNumber} {Q : Code} {g : ℕ} {args : List ℤ} {d : ℕ} (A : Paired P f Q g args d) (n : ℕ) where
  abbrev b : Result State
  b = bench P f args d n

  abbrev C : ℕ → Result Control
  C = controller Q g args d

  -- Bench steps + extras, and the budget that the controller needs for them.
  abbrev count : ℕ
  count = b.steps + extras P f args d n

  abbrev needed : ℕ
  needed = count + one_more_if_deep b.stop

  at_needed : Together P b (extras P f args d n) C
  at_needed = together P A.agree A.bench_moves A.controller_moves (bench_again P f args d) (controller_left Q g args d) n

  bench_spent : IsSpent (C needed).stop → b.steps ≡ n
  unfolding bench
  bench_spent i =
      let e : bare_stop b.stop ≡ spent tt = sym at_needed.stops.alike ∙ (bare_spent (C needed).stop).0 i in
      spent_steps (step P d) n (begun f (function_of P f) args []) ((bare_spent b.stop).1 e)

  -- With the budget needed or a larger one it stops as the bench.
  stopped : needed ≤ n → C n ≡ C needed
  stopped l = by (spent_or_not (C needed).stop)
    where
      by : IsSpent (C needed).stop ⊎ (¬ IsSpent (C needed).stop) → C n ≡ C needed
      by (inl i) = let e : b.steps ≡ n = bench_spent i in let q : n ≡ needed = omega arith in ap C q
      by (inr i) = A.agree.controller_stays needed n i l

  bound : (C n).steps + one_more_if_deep (C n).stop ≤ n
  unfolding controller
  bound = let e = early (control_step Q d) n (started Q g args) in one_more_bound (C n).stop (C n).steps n e.step_bound e.left

  control_spent : IsSpent (C n).stop → (C n).steps ≡ n
  unfolding controller
  control_spent i = spent_steps (control_step Q d) n (started Q g args) i

  -- With a smaller one it is spent.
  not_yet : n < needed → IsSpent (C n).stop
  not_yet l = by (spent_or_not (C n).stop)
    where
      same_one : one_more_if_deep (C needed).stop ≡ one_more_if_deep b.stop
      same_one = sym (one_more_bare (C needed).stop) ∙ (ap one_more_if_deep at_needed.stops.alike ∙ one_more_bare b.stop)

      by : IsSpent (C n).stop ⊎ (¬ IsSpent (C n).stop) → IsSpent (C n).stop
      by (inl i) = i
      by (inr i) =
          let e : C needed ≡ C n = A.agree.controller_stays n needed i (omega arith) in
          let q = subst (λ (r : Result Control). r.steps + one_more_if_deep r.stop ≤ n) (sym e) bound in
          let c : (C needed).steps ≡ count = at_needed.steps in
          let o = same_one in
          absurd (omega arith)

  summary_by_bench : summary (C n) ≡ summary_at (bare_stop b.stop) count n
  summary_by_bench = rw (one_more_bare b.stop) (by (leb needed n) refl)
    where
      by : (c : Bool) → leb needed n ≡ c → summary (C n) ≡ cond c (record { stop = bare_stop b.stop; steps = count }) (record { stop = spent tt; steps = n })
      by true e = ap summary (stopped (leb-true needed n e)) ∙ (λ i. record { stop = at_needed.stops.alike i; steps = at_needed.steps i })
      by false e =
          let s : IsSpent (C n).stop = not_yet (leb-false needed n e) in
          λ i. record { stop = (bare_spent (C n).stop).0 s i; steps = control_spent s i }

-- The controllers stop alike, with the same steps.
pub controllers_alike : {P R : Program} {f f' : FunctionNumber} {Q Q' : Code} {g g' : ℕ} {args : List ℤ} {d : ℕ}
    → Paired P f Q g args d → Paired R f' Q' g' args d → RunsAlike P f R f' args → (n : ℕ)
    → (bare_stop (controller Q' g' args d n).stop ≡ bare_stop (controller Q g args d n).stop)
    × ((controller Q' g' args d n).steps ≡ (controller Q g args d n).steps)
controllers_alike {P} {R} {f} {f'} {Q} {Q'} {g} {g'} {args} {d} A A' E n =
    (ap (λ (r : Result (Unit {0})). r.stop) e, ap (λ (r : Result (Unit {0})). r.steps) e)
  where
    same : summary_at (bare_stop (bench R f' args d n).stop) ((bench R f' args d n).steps + extras R f' args d n) n
        ≡ summary_at (bare_stop (bench P f args d n).stop) ((bench P f args d n).steps + extras P f args d n) n
    same = λ i. summary_at (E.stop d n i) (E.steps d n i + E.extras d n i) n

    e : summary (controller Q' g' args d n) ≡ summary (controller Q g args d n)
    e = summary_by_bench A' n ∙ (same ∙ sym (summary_by_bench A n))

-- Where one of two runs that are told alike at every budget runs on for ever, so does the other.
pub forever_alike : {S : Type 0} (A B : ℕ → Result S) → ((n : ℕ) → bare_stop (A n).stop ≡ bare_stop (B n).stop) → Forever A → Forever B
forever_alike A B e h = λ n. (bare_spent (B n).stop).1 (sym (e n) ∙ (bare_spent (A n).stop).0 (h n))
