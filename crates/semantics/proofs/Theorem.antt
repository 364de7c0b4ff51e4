-- Demand 3 of the rules, proved: theorem 2 and corollary 3 of source document 003, for whole runs and with steps counted.
use Prim.Native.Nat.{ℕ, zero, suc, ◌+◌, ◌≤◌, ◌<◌}
use Rattle.std.proofs.Common.{add-zero, sym, ◌∙◌, length-append}
use native.Mathlib.Omega.{arith}
use Rattle.std.proofs.Math.Path.{◌≡◌, refl, ap, subst}
use Rattle.std.specs.Prelude.{◌↔◌, ℤ, pos, length, replicate}
use mathlib.Core.List.{List, []}
use Rattle.std.proofs.lemmas.List.{length-replicate}
use Rattle.semantics.specs.Program.{FunctionNumber, Program, variables, function_of}
use Rattle.semantics.specs.Run.{End, Outcome, next, end, too_deep, stuck, Stop, ended, spent, deep, IsSpent, IsDeep, Result, after, added, run, total, EndsWith, Forever}
use Rattle.semantics.specs.Bench.{State, waiting, begun, step, bench}
use Rattle.semantics.specs.WellFormed.{WellFormed, WellFormedState}
use Rattle.semantics.specs.Controller.{Control, started, no_target, control_step, controller}
use Rattle.semantics.specs.Translation.{entry_target, number, translate}
use Rattle.semantics.specs.Extras.{extra, extras}
use Rattle.semantics.specs.Matching.{holding, HoldingsMatch}
use Rattle.semantics.specs.Statement.{SameCall, Agree, Demand3, Sound, BenchSound}
use Rattle.semantics.proofs.ListLaws.{get_d_at}
use Rattle.semantics.proofs.RunLaws.{IsLast, last, Goes, goes_goes, goes_unique, goes_last, Ran, ran_spent, ran_last, ran, run_spent, run_last, total_last, run_ended, run_deep}
use Rattle.semantics.proofs.SoundLaws.{Keeps, sound}
use Rattle.semantics.proofs.TranslationLaws.{entry_at}
use Rattle.semantics.proofs.MatchingLaws.{matching, matching_matches}
use Rattle.semantics.proofs.Follow.{ControlGoes, Followed, Follows, function_well_formed}
use Rattle.semantics.proofs.FollowCall.{begins, follow}

-- ── A stopped run stays as it is ────────────────────────────────────────────────────────────────

module _ {S : Type 0} (step : S → Outcome S) (weight : S → ℕ) (s : S) where
  pub run_stays : (n m : ℕ) → ¬ IsSpent (run step n s).stop → n ≤ m → (run step m s ≡ run step n s) × (total step weight m s ≡ total step weight n s)
  run_stays n m h l = by (ran step n s)
    where
      by : Ran step n s → (run step m s ≡ run step n s) × (total step weight m s ≡ total step weight n s)
      by (ran_spent t g) = absurd (h (subst (λ (r : Result S). IsSpent r.stop) (sym (run_spent step n s t g)) tt))
      by (ran_last k t g x i) = (
        run_last step k m s t g x (omega arith) ∙ sym (run_last step k n s t g x i),
        total_last step weight k m s t g x (omega arith) ∙ sym (total_last step weight k n s t g x i),
      )

-- ── Many steps ──────────────────────────────────────────────────────────────────────────────────

module _ (P : Program) (W : WellFormed P) (d : ℕ) where
  followed : (S T : State) → WellFormedState P S → step P d S ≡ next T → Followed P d S T
  followed S T w e = subst (λ (o : Outcome State). Follows P d S o) e (follow P W d S w)

  -- The extras of the first n steps from S.
  weighed : ℕ → State → ℕ
  weighed n S = total (step P d) (extra P) n S

  record Reached (n : ℕ) (S T : State) : Type 0 where
    goes : ControlGoes P d (n + weighed n S) (matching P S) (matching P T)
    well_formed : WellFormedState P T
    limit : waiting S ≤ d → waiting T ≤ d

  reached : (n : ℕ) (S T : State) → WellFormedState P S → Goes (step P d) n S T → Reached n S T
  unfolding weighed
  reached zero S T w g =
      record {
        goes = ap (matching P) g;
        well_formed = subst (WellFormedState P) g w;
        limit = λ l. subst (λ (U : State). waiting U ≤ d) g l;
      }
  reached (suc n) S T w g =
      let F : Followed P d S g.0 = followed S g.0 w g.1 in
      let R : Reached n g.0 T = reached n g.0 T F.well_formed g.2 in
      record {
        goes = subst (λ (k : ℕ). ControlGoes P d k (matching P S) (matching P T)) (sums (extra P S) n (weighed n g.0) (weighed (suc n) S) (ap (λ (o : Outcome State). added (extra P S) o (λ (U : State). weighed n U)) g.1))
            (goes_goes (control_step (translate P) d) (suc (extra P S)) (n + weighed n g.0) (matching P S) (matching P g.0) (matching P T) F.goes R.goes);
        well_formed = R.well_formed;
        limit = λ l. R.limit (F.limit l);
      }
    where
      sums : (a k b t : ℕ) → t ≡ a + b → suc a + (k + b) ≡ suc k + t
      sums a k b t e = omega arith

-- The state in which a function starts is well-formed.
pub start_well_formed : (P : Program) → WellFormed P → (f : FunctionNumber) → f < length P → (args : List ℤ)
    → length args ≡ (function_of P f).params → WellFormedState P (begun f (function_of P f) args [])
start_well_formed P W f lf args la = (
  record {
    function = lf;
    handler = omega arith;
    block = (function_well_formed P W f lf).entry;
    variables = length-append args (replicate (function_of P f).locals (pos 0)) ∙ sizes;
  },
  tt,
)
  where
    sizes : length args + length (replicate (function_of P f).locals (pos 0)) ≡ variables (function_of P f)
    sizes = rw (length-replicate (function_of P f).locals (pos 0), la)

-- ── Whole runs, from a start function ───────────────────────────────────────────────────────────

module _ (P : Program) (W : WellFormed P) (f : FunctionNumber) (lf : f < length P) (args : List ℤ) (la : length args ≡ (function_of P f).params) (d : ℕ) where
  B : ℕ → Result State
  B = bench P f args d

  X : ℕ → ℕ
  X = extras P f args d

  C : ℕ → Result Control
  C = controller (translate P) (number P f) args d

  first : State
  first = begun f (function_of P f) args []

  start : Control
  start = started (translate P) (number P f) args

  first_well_formed : WellFormedState P first
  unfolding first
  first_well_formed = start_well_formed P W f lf args la

  -- The extras of the start: the start function's locals.
  starts : ControlGoes P d (function_of P f).locals start (matching P first)
  unfolding first start
  starts =
      rw (get_d_at (translate P) (number P f) (entry_target (number P) (number P f) (function_of P f)) no_target (entry_at P f lf))
      (begins P d f 0 0 args [] la)

  -- Where the bench has gone n steps, the controller has gone n steps and the extras.
  far : (n : ℕ) (T : State) → Goes (step P d) n first T → ControlGoes P d (n + ((function_of P f).locals + weighed P W d n first)) start (matching P T)
  far n T g =
      subst (λ (k : ℕ). ControlGoes P d k start (matching P T)) (sums (function_of P f).locals n (weighed P W d n first))
      (goes_goes (control_step (translate P) d) (function_of P f).locals (n + weighed P W d n first) start (matching P first) (matching P T) starts (reached P W d n first T first_well_formed g).goes)
    where
      sums : (a k b : ℕ) → a + (k + b) ≡ k + (a + b)
      sums a k b = omega arith

  -- How both runs went, for a bench budget n.
  data Together (n : ℕ) : Type 0 where
    both_going : (T : State) → Goes (step P d) n first T → ControlGoes P d (n + X n) start (matching P T) → WellFormedState P T → Together n
    both_ended : (k : ℕ) (e : End) (T : State) (c : Control) → Goes (step P d) k first T → step P d T ≡ end e → k < n
        → ControlGoes P d (k + X n) start c → control_step (translate P) d c ≡ end e → Together n
    both_deep : (k : ℕ) (T : State) → Goes (step P d) k first T → step P d T ≡ too_deep → k < n
        → ControlGoes P d (k + X n) start (matching P T) → control_step (translate P) d (matching P T) ≡ too_deep → SameCall P T (matching P T) → Together n

  together_last : (n k : ℕ) (T : State) → Goes (step P d) k first T → k < n → IsLast (step P d T) → (o : Outcome State) → step P d T ≡ o → Follows P d T o → Together n
  unfolding X extras weighed first
  together_last n k T g h l (next U) e F = absurd (subst (λ (o : Outcome State). IsLast o) e l)
  together_last n k T g h l (end x) e F =
      both_ended k x T F.0 g e h
      (subst (λ (m : ℕ). ControlGoes P d m start F.0) (sums (function_of P f).locals k (weighed P W d k first) (extra P T) (total (step P d) (extra P) n first) weights)
      (goes_goes (control_step (translate P) d) (k + ((function_of P f).locals + weighed P W d k first)) (extra P T) start (matching P T) F.0 (far k T g) F.1))
      F.2
    where
      weights : total (step P d) (extra P) n first ≡ weighed P W d k first + extra P T
      weights = total_last (step P d) (extra P) k n first T g l h ∙ ap (λ (o : Outcome State). weighed P W d k first + added (extra P T) o (λ (U : State). 0)) e

      sums : (a j b x t : ℕ) → t ≡ b + x → (j + (a + b)) + x ≡ j + (a + t)
      sums a j b x t q = omega arith
  together_last n k T g h l too_deep e F =
      both_deep k T g e h
      (subst (λ (m : ℕ). ControlGoes P d (k + ((function_of P f).locals + m)) start (matching P T)) (sym weights) (far k T g))
      F.0 F.1
    where
      weights : total (step P d) (extra P) n first ≡ weighed P W d k first
      weights = total_last (step P d) (extra P) k n first T g l h ∙ (ap (λ (o : Outcome State). weighed P W d k first + added (extra P T) o (λ (U : State). 0)) e ∙ add-zero (weighed P W d k first))
  together_last n k T g h l stuck e F = absurd F

  together : (n : ℕ) → Together n
  together n = by (ran (step P d) n first)
    where
      by : Ran (step P d) n first → Together n
      by (ran_spent T g) = both_going T g (unfold X extras weighed first in far n T g) (reached P W d n first T first_well_formed g).well_formed
      by (ran_last k T g l h) = together_last n k T g h l (step P d T) refl (follow P W d T (reached P W d k first T first_well_formed g).well_formed)

  -- At bench steps + extras.
  Counted : Result State → ℕ → Type 0
  Counted b x = ((C (b.steps + x)).steps ≡ b.steps + x) × HoldingsMatch P (holding b.stop) (holding (C (b.steps + x)).stop)

  counts : (n : ℕ) (b : Result State) (c : Result Control) → B n ≡ b → C (b.steps + X n) ≡ c → c.steps ≡ b.steps + X n → HoldingsMatch P (holding b.stop) (holding c.stop) → Counted (B n) (X n)
  unfolding Counted
  counts n b c eb ec q m =
      subst (λ (r : Result State). Counted r (X n)) (sym eb)
      (ap (λ (r : Result Control). r.steps) ec ∙ q, subst (λ (r : Result Control). HoldingsMatch P (holding b.stop) (holding r.stop)) (sym ec) m)

  counted : (n : ℕ) → Counted (B n) (X n)
  unfolding B C bench controller first start
  counted n = by (together n)
    where
      by : Together n → Counted (B n) (X n)
      by (both_going T g c w) =
          counts n (record { stop = spent T; steps = n }) (record { stop = spent (matching P T); steps = n + X n })
          (run_spent (step P d) n first T g) (run_spent (control_step (translate P) d) (n + X n) start (matching P T) c) refl (matching_matches P T)
      by (both_ended k e T c g l h cg cl) =
          counts n (record { stop = ended e; steps = suc k }) (record { stop = ended e; steps = suc (k + X n) })
          (run_ended (step P d) k n first T e g l h) (run_ended (control_step (translate P) d) (k + X n) (suc k + X n) start c e cg cl (omega arith)) (omega arith) refl
      by (both_deep k T g l h cg cl m) =
          counts n (record { stop = deep T; steps = k }) (record { stop = spent (matching P T); steps = k + X n })
          (run_deep (step P d) k n first T g l h) (run_spent (control_step (translate P) d) (k + X n) start (matching P T) cg) refl (matching_matches P T)

  -- The same end.
  there : (e : End) → EndsWith B e → EndsWith C e
  unfolding B C bench controller first start
  there e (n, q) = by (together n)
    where
      by : Together n → EndsWith C e
      by (both_going T g c w) = let z : ◌≡◌ {A = ℕ} 0 1 = cc (ap (λ (r : Result State). r.stop) (run_spent (step P d) n first T g), q) in absurd (omega arith)
      by (both_ended k x T c g l h cg cl) =
          let same : x ≡ e = cc (ap (λ (r : Result State). r.stop) (run_ended (step P d) k n first T x g l h), q) in
          (suc (k + X n), ap (λ (r : Result Control). r.stop) (run_ended (control_step (translate P) d) (k + X n) (suc (k + X n)) start c x cg cl (omega arith)) ∙ ap (λ (y : End). ended y) same)
      by (both_deep k T g l h cg cl m) = let z : ◌≡◌ {A = ℕ} 0 1 = cc (ap (λ (r : Result State). r.stop) (run_deep (step P d) k n first T g l h), q) in absurd (omega arith)

  -- The controller's last state, if it has one within n steps, is where the bench's run led.
  back_ended : (n k : ℕ) (c : Control) (e : End) → ControlGoes P d k start c → control_step (translate P) d c ≡ end e → k < n → (B n).stop ≡ ended e
  unfolding B bench first
  back_ended n k c e g l h = by (together n)
    where
      is_last : IsLast (control_step (translate P) d c)
      is_last = subst (λ (o : Outcome Control). IsLast o) (sym l) tt

      by : Together n → (B n).stop ≡ ended e
      by (both_going T bg cg w) = let m : n + X n ≤ k = goes_last (control_step (translate P) d) k (n + X n) start c (matching P T) g is_last cg in absurd (omega arith)
      by (both_ended j x T c' bg bl bh cg cl) =
          let m : j + X n ≤ k = goes_last (control_step (translate P) d) k (j + X n) start c c' g is_last cg in
          let m' : k ≤ j + X n = goes_last (control_step (translate P) d) (j + X n) k start c' c cg (subst (λ (o : Outcome Control). IsLast o) (sym cl) tt) g in
          let q : k ≡ j + X n = omega arith in
          let u : c ≡ c' = goes_unique (control_step (translate P) d) (j + X n) start c c' (subst (λ (i : ℕ). ControlGoes P d i start c) q g) cg in
          let same : x ≡ e = cc (ap (control_step (translate P) d) u, l, cl) in
          ap (λ (r : Result State). r.stop) (run_ended (step P d) j n first T x bg bl bh) ∙ ap (λ (y : End). ended y) same
      by (both_deep j T bg bl bh cg cl s) =
          let m : j + X n ≤ k = goes_last (control_step (translate P) d) k (j + X n) start c (matching P T) g is_last cg in
          let m' : k ≤ j + X n = goes_last (control_step (translate P) d) (j + X n) k start (matching P T) c cg (subst (λ (o : Outcome Control). IsLast o) (sym cl) tt) g in
          let q : k ≡ j + X n = omega arith in
          let u : c ≡ matching P T = goes_unique (control_step (translate P) d) (j + X n) start c (matching P T) (subst (λ (i : ℕ). ControlGoes P d i start c) q g) cg in
          let z : ◌≡◌ {A = ℕ} 0 1 = cc (ap (control_step (translate P) d) u, l, cl) in
          absurd (omega arith)

  back : (e : End) → EndsWith C e → EndsWith B e
  unfolding C controller start
  back e (n, q) = by (ran (control_step (translate P) d) n start)
    where
      at_last : (k : ℕ) (c : Control) → ControlGoes P d k start c → IsLast (control_step (translate P) d c) → k < n → (o : Outcome Control) → control_step (translate P) d c ≡ o → EndsWith B e
      at_last k c g l h (next c') x = absurd (subst (λ (o : Outcome Control). IsLast o) x l)
      at_last k c g l h (end y) x =
          let same : y ≡ e = cc (ap (λ (r : Result Control). r.stop) (run_ended (control_step (translate P) d) k n start c y g x h), q) in
          (n, back_ended n k c y g x h ∙ ap (λ (v : End). ended v) same)
      at_last k c g l h too_deep x = let z : ◌≡◌ {A = ℕ} 0 1 = cc (ap (λ (r : Result Control). r.stop) (run_deep (control_step (translate P) d) k n start c g x h), q) in absurd (omega arith)
      at_last k c g l h stuck x = let z : ◌≡◌ {A = ℕ} 0 1 = cc (ap (λ (r : Result Control). r.stop) (run_last (control_step (translate P) d) k n start c g l h ∙ ap (λ (o : Outcome Control). after k (last o c)) x), q) in absurd (omega arith)

      by : Ran (control_step (translate P) d) n start → EndsWith B e
      by (ran_spent c g) = let z : ◌≡◌ {A = ℕ} 0 1 = cc (ap (λ (r : Result Control). r.stop) (run_spent (control_step (translate P) d) n start c g), q) in absurd (omega arith)
      by (ran_last k c g l h) = at_last k c g l h (control_step (translate P) d c) refl

  -- One step more for each, after k bench steps with x extras.
  data OneMore (k x : ℕ) : Type 0 where
    neither : ¬ IsDeep (B (k + 1)).stop → ¬ IsDeep (C (k + x + 1)).stop → OneMore k x
    both : (T : State) → B (k + 1) ≡ record { stop = deep T; steps = k } → C (k + x + 1) ≡ record { stop = deep (matching P T); steps = k + x } → SameCall P T (matching P T) → OneMore k x

  not_deep : {S : Type 0} (r s : Result S) → r ≡ s → ¬ IsDeep s.stop → ¬ IsDeep r.stop
  not_deep {S} r s e h i = h (subst (λ (x : Result S). IsDeep x.stop) e i)

  -- Where the controller has a next step, it does not stop deep there.
  control_goes_on : (k : ℕ) (c c' : Control) → ControlGoes P d k start c → control_step (translate P) d c ≡ next c' → ¬ IsDeep (C (k + 1)).stop
  unfolding C controller start
  control_goes_on k c c' g e =
      not_deep (C (k + 1)) (record { stop = spent c'; steps = k + 1 })
      (run_spent (control_step (translate P) d) (k + 1) start c' (goes_goes (control_step (translate P) d) k 1 start c c' g (c', e, refl))) (λ i. i)

  control_ends : (k n : ℕ) (c : Control) (e : End) → ControlGoes P d k start c → control_step (translate P) d c ≡ end e → k < n → ¬ IsDeep (C n).stop
  unfolding C controller start
  control_ends k n c e g l h = not_deep (C n) (record { stop = ended e; steps = suc k }) (run_ended (control_step (translate P) d) k n start c e g l h) (λ i. i)

  bench_ends : (k n : ℕ) (T : State) (e : End) → Goes (step P d) k first T → step P d T ≡ end e → k < n → ¬ IsDeep (B n).stop
  unfolding B bench first
  bench_ends k n T e g l h = not_deep (B n) (record { stop = ended e; steps = suc k }) (run_ended (step P d) k n first T e g l h) (λ i. i)

  ends_next : (k m : ℕ) (T : State) (c : Control) (e : End) → ControlGoes P d k start (matching P T) → ControlGoes P d m (matching P T) c → control_step (translate P) d c ≡ end e → ¬ IsDeep (C (k + 1)).stop
  ends_next k zero T c e g h l = control_ends k (k + 1) (matching P T) e g (ap (control_step (translate P) d) h ∙ l) (omega arith)
  ends_next k (suc m) T c e g h l = control_goes_on k (matching P T) h.0 g h.1

  both_stop_deep : (k x : ℕ) (T : State) → Goes (step P d) k first T → step P d T ≡ too_deep → ControlGoes P d (k + x) start (matching P T) → control_step (translate P) d (matching P T) ≡ too_deep → SameCall P T (matching P T) → OneMore k x
  unfolding B C bench controller first start
  both_stop_deep k x T g l cg cl m =
      both T (run_deep (step P d) k (k + 1) first T g l (omega arith)) (run_deep (control_step (translate P) d) (k + x) (k + x + 1) start (matching P T) cg cl (omega arith)) m

  more_going : (n x : ℕ) (T : State) → Goes (step P d) n first T → ControlGoes P d (n + x) start (matching P T) → (o : Outcome State) → step P d T ≡ o → Follows P d T o → OneMore n x
  unfolding B bench first
  more_going n x T g cg (next U) e F =
      neither
      (not_deep (B (n + 1)) (record { stop = spent U; steps = n + 1 }) (run_spent (step P d) (n + 1) first U (goes_goes (step P d) n 1 first T U g (U, e, refl))) (λ i. i))
      (control_goes_on (n + x) (matching P T) F.goes.0 cg F.goes.1)
  more_going n x T g cg (end y) e F = neither (bench_ends n (n + 1) T y g e (omega arith)) (ends_next (n + x) (extra P T) T F.0 y cg F.1 F.2)
  more_going n x T g cg too_deep e F = both_stop_deep n x T g e cg F.0 F.1
  more_going n x T g cg stuck e F = absurd F

  one_more : (n : ℕ) → OneMore (B n).steps (X n)
  unfolding B bench first
  one_more n = by (together n)
    where
      at_steps : (k : ℕ) (s : Stop State) → B n ≡ record { stop = s; steps = k } → OneMore k (X n) → OneMore (B n).steps (X n)
      at_steps k s e m = subst (λ (j : ℕ). OneMore j (X n)) (sym (ap (λ (r : Result State). r.steps) e)) m

      by : Together n → OneMore (B n).steps (X n)
      by (both_going T g cg w) = at_steps n (spent T) (run_spent (step P d) n first T g) (more_going n (X n) T g cg (step P d T) refl (follow P W d T w))
      by (both_ended k e T c g l h cg cl) =
          at_steps (suc k) (ended e) (run_ended (step P d) k n first T e g l h)
          (neither (bench_ends k (suc k + 1) T e g l (omega arith)) (control_ends (k + X n) (suc k + X n + 1) c e cg cl (omega arith)))
      by (both_deep k T g l h cg cl m) = at_steps k (deep T) (run_deep (step P d) k n first T g l h) (both_stop_deep k (X n) T g l cg cl m)

  same_deep_lem : (n : ℕ) → IsDeep (B ((B n).steps + 1)).stop ↔ IsDeep (C ((B n).steps + X n + 1)).stop
  same_deep_lem n = by (one_more n)
    where
      by : OneMore (B n).steps (X n) → IsDeep (B ((B n).steps + 1)).stop ↔ IsDeep (C ((B n).steps + X n + 1)).stop
      by (neither b c) = (λ i. absurd (b i), λ i. absurd (c i))
      by (both T b c m) = (
        λ i. subst (λ (r : Result Control). IsDeep r.stop) (sym c) tt,
        λ i. subst (λ (r : Result State). IsDeep r.stop) (sym b) tt,
      )

  same_call_lem : (n : ℕ) (s : State) (c : Control) → (B ((B n).steps + 1)).stop ≡ deep s → (C ((B n).steps + X n + 1)).stop ≡ deep c
      → SameCall P s c × ((B ((B n).steps + 1)).steps ≡ (B n).steps) × ((C ((B n).steps + X n + 1)).steps ≡ (B n).steps + X n)
  same_call_lem n s c e e' = by (one_more n)
    where
      by : OneMore (B n).steps (X n) → SameCall P s c × ((B ((B n).steps + 1)).steps ≡ (B n).steps) × ((C ((B n).steps + X n + 1)).steps ≡ (B n).steps + X n)
      by (neither b k) = absurd (b (subst (λ (x : Stop State). IsDeep x) (sym e) tt))
      by (both T b k m) =
          let es : T ≡ s = cc (ap (λ (r : Result State). r.stop) b, e) in
          let ec : matching P T ≡ c = cc (ap (λ (r : Result Control). r.stop) k, e') in (
            subst (λ (x : Control). SameCall P s x) ec (subst (λ (t : State). SameCall P t (matching P T)) es m),
            ap (λ (r : Result State). r.steps) b,
            ap (λ (r : Result Control). r.steps) k,
          )

  -- For ever.
  forever_there : Forever B → Forever C
  unfolding B C bench controller first start
  forever_there F n = by (ran (control_step (translate P) d) n start)
    where
      past : (k : ℕ) (c : Control) → ControlGoes P d k start c → IsLast (control_step (translate P) d c) → k < n → Together n → IsSpent (C n).stop
      past k c g l h (both_going T bg cg w) = let m : n + X n ≤ k = goes_last (control_step (translate P) d) k (n + X n) start c (matching P T) g l cg in absurd (omega arith)
      past k c g l h (both_ended j e T c' bg bl bh cg cl) = absurd (subst (λ (r : Result State). IsSpent r.stop) (run_ended (step P d) j n first T e bg bl bh) (F n))
      past k c g l h (both_deep j T bg bl bh cg cl m) = absurd (subst (λ (r : Result State). IsSpent r.stop) (run_deep (step P d) j n first T bg bl bh) (F n))

      by : Ran (control_step (translate P) d) n start → IsSpent (C n).stop
      by (ran_spent c g) = subst (λ (r : Result Control). IsSpent r.stop) (sym (run_spent (control_step (translate P) d) n start c g)) tt
      by (ran_last k c g l h) = past k c g l h (together n)

  forever_back : Forever C → Forever B
  unfolding B C bench controller first start
  forever_back F n = by (together n)
    where
      by : Together n → IsSpent (B n).stop
      by (both_going T g cg w) = subst (λ (r : Result State). IsSpent r.stop) (sym (run_spent (step P d) n first T g)) tt
      by (both_ended k e T c g l h cg cl) = absurd (subst (λ (r : Result Control). IsSpent r.stop) (run_ended (control_step (translate P) d) (k + X n) (suc (k + X n)) start c e cg cl (omega arith)) (F (suc (k + X n))))
      by (both_deep k T g l h cg cl m) = absurd (subst (λ (r : Result Control). IsSpent r.stop) (run_deep (control_step (translate P) d) (k + X n) (suc (k + X n)) start (matching P T) cg cl (omega arith)) (F (suc (k + X n))))

  bench_stays_lem : (n m : ℕ) → ¬ IsSpent (B n).stop → n ≤ m → (B m ≡ B n) × (X m ≡ X n)
  unfolding B X bench extras
  bench_stays_lem n m h l =
      let r : (B m ≡ B n) × (total (step P d) (extra P) m (begun f (function_of P f) args []) ≡ total (step P d) (extra P) n (begun f (function_of P f) args [])) = run_stays (step P d) (extra P) (begun f (function_of P f) args []) n m h l in
      (r.0, ap (λ (k : ℕ). (function_of P f).locals + k) r.1)

  controller_stays_lem : (n m : ℕ) → ¬ IsSpent (C n).stop → n ≤ m → C m ≡ C n
  unfolding C controller
  controller_stays_lem n m h l = (run_stays (control_step (translate P) d) (λ c. 0) (started (translate P) (number P f) args) n m h l).0

  pub agrees : Agree P (bench P f args d) (extras P f args d) (controller (translate P) (number P f) args d)
  unfolding B X C Counted
  agrees =
      record {
        counted = λ n. (counted n).0;
        matching = λ n. (counted n).1;
        same_end = λ e. (there e, back e);
        same_deep = same_deep_lem;
        same_call = same_call_lem;
        same_forever = (forever_there, forever_back);
        bench_stays = bench_stays_lem;
        controller_stays = controller_stays_lem;
      }

  -- Theorem 1 for whole runs.
  pub bench_sound : Sound (WellFormedState P) waiting d (bench P f args d)
  unfolding bench first
  bench_sound = sound (step P d) waiting d (WellFormedState P) (λ S w. keeps S (step P d S) (follow P W d S w)) first first_well_formed (omega arith)
    where
      keeps : (S : State) (o : Outcome State) → Follows P d S o → Keeps waiting d (WellFormedState P) S o
      keeps S (next T) F = (F.well_formed, F.limit)
      keeps S (end e) F = tt
      keeps S too_deep F = tt
      keeps S stuck F = F

-- Demand 3 of the rules.
pub demand3 : Demand3
demand3 P W f lf args la d = agrees P W f lf args la d

pub bench_is_sound : BenchSound
bench_is_sound P W f lf args la d = bench_sound P W f lf args la d
