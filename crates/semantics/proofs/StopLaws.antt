-- How a run stops, how many steps and extras it has; and the two runs of one call, from what the rules agree on at every budget.
use Prim.Native.Nat.{ℕ, zero, suc, ◌+◌, ◌*◌, ◌≤◌, ◌<◌}
use native.Mathlib.Omega.{arith}
use Rattle.std.proofs.Common.{add-zero, sym, ap, ◌∙◌, subst, leb-true, leb-false}
use Rattle.std.specs.Prelude.{◌≡◌, refl, ◌↔◌, Bool, true, false, cond, List, [], ◌∷◌, leb, ℤ, ◌-ℤ◌}
use Rattle.std.proofs.Math.Option.{Option, none, some}
use Rattle.semantics.specs.Value.{in_range}
use Rattle.semantics.specs.Program.{FunctionNumber, Variable, Handler, constant, copy, difference, call, goto, return, branch, raise, Function, Program, function_of}
use Rattle.semantics.specs.Run.{End, Outcome, next, end, too_deep, stuck, Stop, ended, spent, deep, broken, IsSpent, IsDeep, IsBroken, Result, bare_stop, one_more_if_deep, spent_if_deep, after, taken, added, run, total}
use Rattle.semantics.specs.Bench.{Frame, frame, State, state, begun, step, bench}
use Rattle.semantics.specs.Controller.{Control, control, started, control_step, controller}
use Rattle.semantics.specs.Code.{Code}
use Rattle.semantics.specs.Extras.{caught, caught_outside, one, bindings, raise_extra, value_of, extra, extras}
use Rattle.semantics.specs.Translation.{spare_slot, receiver_at}
use Rattle.semantics.specs.Matching.{over, going, holding, HoldingsMatch}
use Rattle.semantics.specs.Statement.{SameCall, StopsMatch, Agree}
use Rattle.semantics.proofs.RunLaws.{IsLast, last, Goes, Ran, ran_spent, ran_last, ran, run_spent, run_last, run_deep}

-- ── A run takes no more steps than its budget, fewer where it stops deep, and stops deep with one more than its steps ────

pub record Early {S : Type 0} (step : S → Outcome S) (n : ℕ) (s : S) : Type 0 where
  pub step_bound : (run step n s).steps ≤ n
  pub left : IsDeep (run step n s).stop → (run step n s).steps < n
  pub again : IsDeep (run step n s).stop → run step ((run step n s).steps + 1) s ≡ run step n s

module _ {S : Type 0} (step : S → Outcome S) (n : ℕ) (s : S) where
  by_spent : (t : S) → run step n s ≡ record { stop = spent t; steps = n } → Early step n s
  by_spent t e =
      let q : (run step n s).steps ≡ n = ap (λ (r : Result S). r.steps) e in
      record {
        step_bound = omega arith;
        left = λ d. absurd (subst (λ (r : Result S). IsDeep r.stop) e d);
        again = λ d. absurd (subst (λ (r : Result S). IsDeep r.stop) e d);
      }

  by_last : (k : ℕ) (t : S) → Goes step k s t → IsLast (step t) → k < n → (o : Outcome S) → step t ≡ o → run step n s ≡ after k (last o t) → Early step n s
  by_last k t g l h (next u) e r = absurd (subst (λ (o : Outcome S). IsLast o) e l)
  by_last k t g l h (end x) e r =
      let q : (run step n s).steps ≡ k + 1 = ap (λ (y : Result S). y.steps) r in
      record {
        step_bound = omega arith;
        left = λ d. absurd (subst (λ (y : Result S). IsDeep y.stop) r d);
        again = λ d. absurd (subst (λ (y : Result S). IsDeep y.stop) r d);
      }
  by_last k t g l h too_deep e r =
      let q : (run step n s).steps ≡ k = ap (λ (y : Result S). y.steps) (run_deep step k n s t g e h) in
      record {
        step_bound = omega arith;
        left = λ d. omega arith;
        again = λ d. ap (λ (m : ℕ). run step (m + 1) s) q ∙ (run_deep step k (k + 1) s t g e (omega arith) ∙ sym (run_deep step k n s t g e h));
      }
  by_last k t g l h stuck e r =
      let q : (run step n s).steps ≡ k + 0 = ap (λ (y : Result S). y.steps) r in
      record {
        step_bound = omega arith;
        left = λ d. absurd (subst (λ (y : Result S). IsDeep y.stop) r d);
        again = λ d. absurd (subst (λ (y : Result S). IsDeep y.stop) r d);
      }

  pub early : Early step n s
  early = by (ran step n s)
    where
      by : Ran step n s → Early step n s
      by (ran_spent t g) = by_spent t (run_spent step n s t g)
      by (ran_last k t g l h) = by_last k t g l h (step t) refl (run_last step k n s t g l h)

-- ── Extras are few ──────────────────────────────────────────────────────────────────────────────

more : (m k a b : ℕ) → a ≤ m → b ≤ m * k → a + b ≤ m * (1 + k)
more m k a b h i = let q : m * (1 + k) ≡ m * k + m = omega arith in omega arith

module _ {S : Type 0} (step : S → Outcome S) (weight : S → ℕ) (m : ℕ) (light : (s : S) → weight s ≤ m) where
  pub total_bound : (n : ℕ) (s : S) → total step weight n s ≤ m * (run step n s).steps
  total_bound zero s = omega arith
  total_bound (suc n) s = by (step s) (λ (t : S). total_bound n t)
    where
      by : (o : Outcome S) → ((t : S) → total step weight n t ≤ m * (run step n t).steps)
          → added (weight s) o (λ (t : S). total step weight n t) ≤ m * (taken o s (λ (t : S). run step n t)).steps
      by (next t) h = let a : weight s ≤ m = light s in let b : total step weight n t ≤ m * (run step n t).steps = h t in more m (run step n t).steps (weight s) (total step weight n t) a b
      by (end e) h = let a : weight s ≤ m = light s in omega arith
      by too_deep h = omega arith
      by stuck h = omega arith

caught_bound : (fs : List Frame) → caught fs ≤ 1
caught_bound [] = omega arith
caught_bound (frame f zero b vs x ∷ fs) = caught_bound fs
caught_bound (frame f (suc l) b vs x ∷ fs) = omega arith

outside_bound : (h : ℕ) (fs : List Frame) → caught_outside h fs ≤ 1
outside_bound zero fs = caught_bound fs
outside_bound (suc h) fs = omega arith

one_bound : {A : Type 0} (o : Option A) → one o ≤ 1
one_bound none = omega arith
one_bound (some a) = omega arith

bindings_bound : (F : Function) (h : Handler) (r : Option Variable) → bindings F h r ≤ 1
bindings_bound F zero none = let b : one (spare_slot F) ≤ 1 = one_bound (spare_slot F) in omega arith
bindings_bound F zero (some y) = omega arith
bindings_bound F (suc l) r = let b : one (receiver_at F (suc l)) ≤ 1 = one_bound (receiver_at F (suc l)) in omega arith

raise_bound : (P : Program) (f : FunctionNumber) (h : Handler) (r : Option Variable) (fs : List Frame) → raise_extra P f h r fs ≤ 2
raise_bound P f h r fs =
    let b : bindings (function_of P f) h r ≤ 1 = bindings_bound (function_of P f) h r in
    let o : caught_outside h fs ≤ 1 = outside_bound h fs in
    omega arith

choice_bound : (c : Bool) {n m : ℕ} → n ≤ m → cond c 0 n ≤ m
choice_bound true h = omega arith
choice_bound false h = h

module _ (P : Program) (m : ℕ) (two : 2 ≤ m) (locals_bound : (g : ℕ) → (function_of P g).locals ≤ m) where
  pub extra_bound : (S : State) → extra P S ≤ suc m
  extra_bound (state f h (constant x i b) vs fs) = omega arith
  extra_bound (state f h (copy x y b) vs fs) = omega arith
  extra_bound (state f h (difference x y z b) vs fs) =
      let l : raise_extra P f h none fs ≤ 2 = raise_bound P f h none fs in
      choice_bound (in_range (value_of vs y -ℤ value_of vs z)) (omega arith)
  extra_bound (state f h (call x g ys b) vs fs) = let l : (function_of P g).locals ≤ m = locals_bound g in omega arith
  extra_bound (state f h (goto l) vs fs) = omega arith
  extra_bound (state f h (return x) vs fs) = omega arith
  extra_bound (state f h (branch y z l m) vs fs) = omega arith
  extra_bound (state f h (raise r) vs fs) = let l : raise_extra P f h r fs ≤ 2 = raise_bound P f h r fs in omega arith

  pub extras_bound_lem : (f : ℕ) (args : List ℤ) (d n : ℕ) → extras P f args d n ≤ m + suc m * (bench P f args d n).steps
  unfolding bench extras
  extras_bound_lem f args d n =
      let l : (function_of P f).locals ≤ m = locals_bound f in
      let t : total (step P d) (extra P) n (begun f (function_of P f) args []) ≤ suc m * (run (step P d) n (begun f (function_of P f) args [])).steps = total_bound (step P d) (extra P) (suc m) extra_bound n (begun f (function_of P f) args []) in
      omega arith

pub bench_bound : (P : Program) (f : ℕ) (args : List ℤ) (d n : ℕ) → (bench P f args d n).steps ≤ n
unfolding bench
bench_bound P f args d n = (early (step P d) n (begun f (function_of P f) args [])).step_bound

pub bench_again : (P : Program) (f : ℕ) (args : List ℤ) (d n : ℕ) → IsDeep (bench P f args d n).stop → bench P f args d ((bench P f args d n).steps + 1) ≡ bench P f args d n
unfolding bench
bench_again P f args d n h = (early (step P d) n (begun f (function_of P f) args [])).again h

pub controller_left : (Q : Code) (g : ℕ) (args : List ℤ) (d n : ℕ) → IsDeep (controller Q g args d n).stop → (controller Q g args d n).steps < n
unfolding controller
controller_left Q g args d n h = (early (control_step Q d) n (started Q g args)).left h

-- ── A stop that is deep ─────────────────────────────────────────────────────────────────────────

deep_state : {S : Type 0} (x : Stop S) → IsDeep x → (s : S) × (x ≡ deep s)
deep_state (ended e) d = absurd d
deep_state (spent s) d = absurd d
deep_state (deep s) d = (s, refl)
deep_state (broken s) d = absurd d

deep_not_spent : {S : Type 0} (x : Stop S) → IsDeep x → ¬ IsSpent x
deep_not_spent {S} x d i = subst (λ (y : Stop S). IsSpent y) (deep_state x d).1 i

pub bare_deep : {S : Type 0} (x : Stop S) → IsDeep x ↔ (bare_stop x ≡ deep tt)
bare_deep {S} x = (λ d. ap (λ (y : Stop S). bare_stop y) (deep_state x d).1, λ e. back x (subst (λ (y : Stop (Unit {0})). IsDeep y) (sym e) tt))
  where
    back : (y : Stop S) → IsDeep (bare_stop y) → IsDeep y
    back (ended e) d = d
    back (spent s) d = d
    back (deep s) d = d
    back (broken s) d = d

-- ── The two runs of one call ────────────────────────────────────────────────────────────────────

module _ (P : Program) where
  match_ended : (e : End) (y : Stop Control) → HoldingsMatch P (over e) (holding y) → StopsMatch P (ended e) y
  match_ended e (ended e') h = record { alike = ap ended (sym h); states = h; call = λ S C p q. absurd (subst (λ (x : Stop State). IsDeep x) (sym p) tt) }
  match_ended e (spent c) h = absurd h
  match_ended e (deep c) h = absurd h
  match_ended e (broken c) h = absurd h

  match_spent : (S : State) (y : Stop Control) → ¬ IsDeep y → ¬ IsBroken y → HoldingsMatch P (going S) (holding y) → StopsMatch P (spent S) y
  match_spent S (ended e') n b h = absurd h
  match_spent S (spent c) n b h = record { alike = refl; states = h; call = λ S' C p q. absurd (subst (λ (x : Stop State). IsDeep x) (sym p) tt) }
  match_spent S (deep c) n b h = absurd (n tt)
  match_spent S (broken c) n b h = absurd (b tt)

  same_states : (S : State) (C : Control) → SameCall P S C → HoldingsMatch P (going S) (going C)
  same_states (state f h b vs fs) (control e env rs) c = c.0

  match_deep : (S : State) (y : Stop Control) → IsDeep y → ((C : Control) → y ≡ deep C → SameCall P S C) → StopsMatch P (deep S) y
  match_deep S (ended e') d h = absurd d
  match_deep S (spent c) d h = absurd d
  match_deep S (deep c) d h =
      record {
        alike = refl;
        states = same_states S c (h c refl);
        call = λ S' C p q. let a : S ≡ S' = cc (p) in let b : c ≡ C = cc (q) in subst (λ (T : State). SameCall P T C) a (subst (λ (D : Control). SameCall P S D) b (h c refl));
      }
  match_deep S (broken c) d h = absurd d

-- The controller got bench steps + extras, one more where the bench stopped deep: it took bench steps + extras, and the two stops match.
pub record Together (P : Program) (b : Result State) (x : ℕ) (C : ℕ → Result Control) : Type 0 where
  pub stops : StopsMatch P b.stop (C (b.steps + x + one_more_if_deep b.stop)).stop
  pub steps : (C (b.steps + x + one_more_if_deep b.stop)).steps ≡ b.steps + x

-- The controller got exactly bench steps + extras: it took them all, and stopped as the bench did, but spent where the bench stopped deep.
-- With one step more for each, one stops deep exactly when the other does, both with the steps and the extras that they had.
pub record Exactly (B : ℕ → Result State) (X : ℕ → ℕ) (C : ℕ → Result Control) (n : ℕ) : Type 0 where
  pub stop : bare_stop (C ((B n).steps + X n)).stop ≡ spent_if_deep (bare_stop (B n).stop)
  pub steps : (C ((B n).steps + X n)).steps ≡ (B n).steps + X n
  pub same_deep : (bare_stop (B ((B n).steps + 1)).stop ≡ deep tt) ↔ (bare_stop (C ((B n).steps + X n + 1)).stop ≡ deep tt)
  pub deep_steps : bare_stop (B ((B n).steps + 1)).stop ≡ deep tt
      → ((B ((B n).steps + 1)).steps ≡ (B n).steps) × (X ((B n).steps + 1) ≡ X n) × ((C ((B n).steps + X n + 1)).steps ≡ (B n).steps + X n)

module _ (P : Program) {B : ℕ → Result State} {X : ℕ → ℕ} {C : ℕ → Result Control} (A : Agree P B X C)
    (sound : (n : ℕ) → ¬ IsBroken (B n).stop) (controls : (n : ℕ) → ¬ IsBroken (C n).stop)
    (again : (n : ℕ) → IsDeep (B n).stop → B ((B n).steps + 1) ≡ B n) (left : (n : ℕ) → IsDeep (C n).stop → (C n).steps < n) where
  not_deep : (n : ℕ) → ¬ IsDeep (C ((B n).steps + X n)).stop
  not_deep n d = let l : (C ((B n).steps + X n)).steps < (B n).steps + X n = left ((B n).steps + X n) d in let e : (C ((B n).steps + X n)).steps ≡ (B n).steps + X n = A.counted n in absurd (omega arith)

  -- Deep with one step more for each.
  deep_steps_lem : (n : ℕ) → IsDeep (B ((B n).steps + 1)).stop
      → ((B ((B n).steps + 1)).steps ≡ (B n).steps) × IsDeep (C ((B n).steps + X n + 1)).stop × ((C ((B n).steps + X n + 1)).steps ≡ (B n).steps + X n)
  deep_steps_lem n d =
      let f = (A.same_deep n).0 d in
      let s = deep_state (B ((B n).steps + 1)).stop d in
      let c = deep_state (C ((B n).steps + X n + 1)).stop f in
      let q = A.same_call n s.0 c.0 s.1 c.1 in
      (q.1, f, q.2)

  -- The controller stops deep after one number of steps only.
  same_count : (a b : ℕ) → IsDeep (C (a + 1)).stop → (C (a + 1)).steps ≡ a → (C (b + 1)).steps ≡ b → a ≤ b → a ≡ b
  same_count a b d ea eb l =
      sym ea ∙ (ap (λ (r : Result Control). r.steps) (sym (A.controller_stays (a + 1) (b + 1) (deep_not_spent (C (a + 1)).stop d) (omega arith))) ∙ eb)

  same_extras : (n : ℕ) → IsDeep (B ((B n).steps + 1)).stop → X ((B n).steps + 1) ≡ X n
  same_extras n d =
      let m : ℕ = (B n).steps + 1 in
      let u = deep_steps_lem n d in
      let v = deep_steps_lem m (subst (λ (r : Result State). IsDeep r.stop) (sym (again m d)) d) in
      by (B n).steps (X n) (B m).steps (X m) u.0 u.1 u.2 v.1 v.2 (leb ((B n).steps + X n) ((B m).steps + X m)) refl
    where
      by : (k x j y : ℕ) → j ≡ k → IsDeep (C (k + x + 1)).stop → (C (k + x + 1)).steps ≡ k + x → IsDeep (C (j + y + 1)).stop → (C (j + y + 1)).steps ≡ j + y
          → (c : Bool) → leb (k + x) (j + y) ≡ c → y ≡ x
      by k x j y e dk ek dj ej true l = let q : k + x ≡ j + y = same_count (k + x) (j + y) dk ek ej (leb-true (k + x) (j + y) l) in omega arith
      by k x j y e dk ek dj ej false l =
          let h : j + y < k + x = leb-false (k + x) (j + y) l in
          let q : j + y ≡ k + x = same_count (j + y) (k + x) dj ej ek (omega arith) in
          omega arith

  module _ (n : ℕ) where
    with_none : (x : Stop State) → (B n).stop ≡ x → one_more_if_deep x ≡ 0 → StopsMatch P x (C ((B n).steps + X n)).stop → Together P (B n) (X n) C
    with_none x e z M =
        let q : (B n).steps + X n + one_more_if_deep (B n).stop ≡ (B n).steps + X n = ap (λ (y : Stop State). (B n).steps + X n + one_more_if_deep y) e ∙ (ap (λ (k : ℕ). (B n).steps + X n + k) z ∙ add-zero ((B n).steps + X n)) in
        record {
          stops = subst (λ (y : Stop State). StopsMatch P y (C ((B n).steps + X n + one_more_if_deep (B n).stop)).stop) (sym e) (subst (λ (k : ℕ). StopsMatch P x (C k).stop) (sym q) M);
          steps = ap (λ (k : ℕ). (C k).steps) q ∙ A.counted n;
        }

    with_one : (S : State) → (B n).stop ≡ deep S → Together P (B n) (X n) C
    with_one S e =
        let d : IsDeep (B n).stop = subst (λ (y : Stop State). IsDeep y) (sym e) tt in
        let r : B ((B n).steps + 1) ≡ B n = again n d in
        let f = deep_steps_lem n (subst (λ (y : Result State). IsDeep y.stop) (sym r) d) in
        let q : (B n).steps + X n + one_more_if_deep (B n).stop ≡ (B n).steps + X n + 1 = ap (λ (y : Stop State). (B n).steps + X n + one_more_if_deep y) e in
        let p : (B ((B n).steps + 1)).stop ≡ deep S = ap (λ (y : Result State). y.stop) r ∙ e in
        record {
          stops = subst (λ (y : Stop State). StopsMatch P y (C ((B n).steps + X n + one_more_if_deep (B n).stop)).stop) (sym e) (subst (λ (k : ℕ). StopsMatch P (deep S) (C k).stop) (sym q) (match_deep P S (C ((B n).steps + X n + 1)).stop f.1 (λ (D : Control) g. (A.same_call n S D p g).0)));
          steps = ap (λ (k : ℕ). (C k).steps) q ∙ f.2;
        }

    -- What the controller holds with exactly bench steps + extras.
    matched : (x : Stop State) → (B n).stop ≡ x → HoldingsMatch P (holding x) (holding (C ((B n).steps + X n)).stop)
    matched x e = subst (λ (y : Stop State). HoldingsMatch P (holding y) (holding (C ((B n).steps + X n)).stop)) e (A.matching n)

    -- Where the bench is still going, the controller is spent.
    still_going : (S : State) → HoldingsMatch P (going S) (holding (C ((B n).steps + X n)).stop) → StopsMatch P (spent S) (C ((B n).steps + X n)).stop
    still_going S h = match_spent P S (C ((B n).steps + X n)).stop (not_deep n) (controls ((B n).steps + X n)) h

    pub together : Together P (B n) (X n) C
    together = by (B n).stop refl
      where
        by : (x : Stop State) → (B n).stop ≡ x → Together P (B n) (X n) C
        by (ended e) q = with_none (ended e) q refl (match_ended P e (C ((B n).steps + X n)).stop (matched (ended e) q))
        by (spent S) q = with_none (spent S) q refl (still_going S (matched (spent S) q))
        by (deep S) q = with_one S q
        by (broken S) q = absurd (sound n (subst (λ (y : Stop State). IsBroken y) (sym q) tt))

    stop_exactly : (x : Stop State) → (B n).stop ≡ x → bare_stop (C ((B n).steps + X n)).stop ≡ spent_if_deep (bare_stop x)
    stop_exactly (ended e) q = (match_ended P e (C ((B n).steps + X n)).stop (matched (ended e) q)).alike
    stop_exactly (spent S) q = (still_going S (matched (spent S) q)).alike
    stop_exactly (deep S) q = (still_going S (matched (deep S) q)).alike
    stop_exactly (broken S) q = absurd (sound n (subst (λ (y : Stop State). IsBroken y) (sym q) tt))

    pub exactly : Exactly B X C n
    exactly =
        let b = bare_deep (B ((B n).steps + 1)).stop in
        let c = bare_deep (C ((B n).steps + X n + 1)).stop in
        record {
          stop = stop_exactly (B n).stop refl;
          steps = A.counted n;
          same_deep = (λ e. c.0 ((A.same_deep n).0 (b.1 e)), λ e. b.0 ((A.same_deep n).1 (c.1 e)));
          deep_steps = λ e. let q = deep_steps_lem n (b.1 e) in (q.0, same_extras n (b.1 e), q.2);
        }
