-- Document 02, Slip 4: the merged program is well-formed, and its functions run as before.
use Rattle.std.specs.Prelude.{ℕ, zero, suc, ◌+◌, ◌<◌, ◌≡◌, Bool, true, false, cond, leb, ℤ, pos, ◌-ℤ◌}
use Rattle.std.proofs.Common.{zero-add, ◌∙◌, subst}
use Rattle.std.proofs.Math.Path.{refl, sym, ap}
use mathlib.Core.List.{List, [], ◌∷◌, map}
use Rattle.std.proofs.Math.Option
use Rattle.std.proofs.Math.Option.{Option, none, some}
use Rattle.std.proofs.Math.ListN.{length, get_elem?, length-append, get_or-append, get_or-map}
use Rattle.std.proofs.lemmas.List.{length-map}
use Rattle.std.proofs.Math.Seq.{get_or-append-add}
use Rattle.semantics.specs.Value.{in_range, at_most}
use Rattle.semantics.specs.Program.{FunctionNumber, Variable, Label, Handler, Block, constant, copy, difference, call, goto, return, branch, raise, Labelled, Function, Program, variables, no_function, function_of}
use Rattle.semantics.specs.Run.{Outcome, next, too_deep, run, total}
use Rattle.semantics.specs.Bench.{Frame, frame, State, state, given, values_of, labelled_at, enter, returned, received, enter_by_raise, unwound, raised, number_raised, begun, step, bench}
use Rattle.semantics.specs.WellFormed.{All, WellFormedBlock, WellFormedLabelled, WellFormedFunction, WellFormed, WellFormedFrame, WellFormedState}
use Rattle.semantics.specs.Extras.{caught, caught_outside, one, bindings, raise_extra, value_of, extra, extras}
use Rattle.semantics.specs.Translation.{spare_slot, receiver_in}
use Rattle.semantics.specs.Merge.{renumbered_block, renumbered_labelled, renumbered_function, merged, RunsAlike, MergedRunsAlike}
use Rattle.semantics.proofs.ListLaws.{at_get_d, at_below, at_append_left, at_append_right, at_map_any, all_every, all_append, all_mapped, map_same}
use Rattle.semantics.proofs.RunLaws.{map_outcome, Alike, run_alike}
use Rattle.semantics.proofs.FollowCall.{step_well_formed}
use Rattle.semantics.proofs.Theorem.{start_well_formed}

-- ── Rules under a map ───────────────────────────────────────────────────────────────────────────

given_map : {A B S : Type 0} (f : A → B) (o : Option A) (rule : B → Outcome S) → given (Option.map f o) rule ≡ given o (λ a. rule (f a))
given_map f none rule = refl
given_map f (some a) rule = refl

given_same : {A S T : Type 0} (h : S → T) (o : Option A) (rule : A → Outcome S) (rule' : A → Outcome T)
    → ((a : A) → rule' a ≡ map_outcome h (rule a)) → given o rule' ≡ map_outcome h (given o rule)
given_same h none rule rule' e = refl
given_same h (some a) rule rule' e = e a

cond_mapped : {S T : Type 0} (h : S → T) (c : Bool) (o u : Outcome S) (o' u' : Outcome T)
    → o' ≡ map_outcome h o → u' ≡ map_outcome h u → cond c o' u' ≡ map_outcome h (cond c o u)
cond_mapped h true o u o' u' e e' = e
cond_mapped h false o u o' u' e e' = e'

-- ── Renumbered by 0: as it was ──────────────────────────────────────────────────────────────────

zero_block : (b : Block) → renumbered_block 0 b ≡ b
zero_block (constant x i b) = ap (constant x i) (zero_block b)
zero_block (copy x y b) = ap (copy x y) (zero_block b)
zero_block (difference x y z b) = ap (difference x y z) (zero_block b)
zero_block (call x g ys b) = λ i. call x (zero-add g i) ys (zero_block b i)
zero_block (goto l) = refl
zero_block (return x) = refl
zero_block (branch y z l m) = refl
zero_block (raise r) = refl

zero_function : (F : Function) → renumbered_function 0 F ≡ F
zero_function F =
    let bs : map (renumbered_labelled 0) F.blocks ≡ F.blocks = map_same (renumbered_labelled 0) labelled F.blocks in
    λ i. record { version = F.version; params = F.params; locals = F.locals; entry = zero_block F.entry i; blocks = bs i }
  where
    labelled : (B : Labelled) → renumbered_labelled 0 B ≡ B
    labelled B = λ i. record { handler = B.handler; receiver = B.receiver; block = zero_block B.block i }

-- ── A program that stands renumbered in another ─────────────────────────────────────────────────

abbrev renumbered_frame : ℕ → Frame → Frame
renumbered_frame k (frame f h b vs x) = frame (k + f) h (renumbered_block k b) vs x

abbrev renumbered_state : ℕ → State → State
renumbered_state k (state f h b vs fs) = state (k + f) h (renumbered_block k b) vs (map (renumbered_frame k) fs)

abbrev function_in : Frame → FunctionNumber
function_in (frame f h b vs x) = f

-- Extras look at the handlers only.
caught_same : (k : ℕ) (fs : List Frame) → caught (map (renumbered_frame k) fs) ≡ caught fs
caught_same k [] = refl
caught_same k (frame f zero b vs x ∷ fs) = caught_same k fs
caught_same k (frame f (suc l) b vs x ∷ fs) = refl

outside_same : (k : ℕ) (h : Handler) (fs : List Frame) → caught_outside h (map (renumbered_frame k) fs) ≡ caught_outside h fs
outside_same k zero fs = caught_same k fs
outside_same k (suc l) fs = refl

-- Function g of P stands in R with the number k + g.
record Included (k : ℕ) (P R : Program) (g : FunctionNumber) : Type 0 where
  there : get_elem? R (k + g) ≡ Option.map (renumbered_function k) (get_elem? P g)
  function : function_of R (k + g) ≡ renumbered_function k (function_of P g)

module _ (k : ℕ) (P R : Program) where
  -- What a step looks up stands in R: the running function, the function called, the functions that wait.
  record LookedUp (f : FunctionNumber) (b : Block) (fs : List Frame) : Type 0 where
    running : Included k P R f
    called : (x : Variable) (g : FunctionNumber) (ys : List Variable) (b' : Block) → b ≡ call x g ys b' → Included k P R g
    frames : All (Included k P R) (map function_in fs)

  abbrev Standing : State → Type 0
  Standing (state f i b vs fs) = LookedUp f b fs

  abbrev h : State → State
  h = renumbered_state k

  -- A call that is within the limit.
  abbrev called_with : Program → FunctionNumber → Option (List ℤ) → List Frame → Outcome State
  called_with N g zs fs = given (get_elem? N g) (λ G. given zs (λ args. next (begun g G args fs)))

  label_stands : (f : FunctionNumber) → Included k P R f → (l : Label)
      → labelled_at (function_of R (k + f)).blocks l ≡ Option.map (renumbered_labelled k) (labelled_at (function_of P f).blocks l)
  label_stands f S zero = refl
  label_stands f S (suc l) = ap (λ (F : Function). get_elem? F.blocks l) S.function ∙ at_map_any (renumbered_labelled k) (function_of P f).blocks l

  -- Entry to a labelled block, with the variables that it gives.
  enters_with : (f : FunctionNumber) → Included k P R f → (l : Label) (vs : Option Variable → List ℤ) (fs : List Frame)
      → given (labelled_at (function_of R (k + f)).blocks l) (λ B. next (state (k + f) B.handler B.block (vs B.receiver) (map (renumbered_frame k) fs)))
      ≡ map_outcome h (given (labelled_at (function_of P f).blocks l) (λ B. next (state f B.handler B.block (vs B.receiver) fs)))
  enters_with f S l vs fs =
      let rule : Labelled → Outcome State = λ B. next (state (k + f) B.handler B.block (vs B.receiver) (map (renumbered_frame k) fs)) in
      let o : Option Labelled = labelled_at (function_of P f).blocks l in
      ap (λ (u : Option Labelled). given u rule) (label_stands f S l) ∙ (given_map (renumbered_labelled k) o rule ∙ given_same h o _ _ (λ B. refl))

  enters : (f : FunctionNumber) → Included k P R f → (l : Label) (vs : List ℤ) (fs : List Frame)
      → enter R (k + f) l vs (map (renumbered_frame k) fs) ≡ map_outcome h (enter P f l vs fs)
  enters f S l vs fs = enters_with f S l (λ q. vs) fs

  enters_by_raise : (f : FunctionNumber) → Included k P R f → (l : Label) (n : ℤ) (vs : List ℤ) (fs : List Frame)
      → enter_by_raise R (k + f) l n vs (map (renumbered_frame k) fs) ≡ map_outcome h (enter_by_raise P f l n vs fs)
  enters_by_raise f S l n vs fs = enters_with f S l (λ q. received q n vs) fs

  unwinds : (n : ℤ) (fs : List Frame) → All (Included k P R) (map function_in fs) → unwound R n (map (renumbered_frame k) fs) ≡ map_outcome h (unwound P n fs)
  unwinds n [] S = refl
  unwinds n (frame f zero b vs x ∷ fs) S = unwinds n fs S.1
  unwinds n (frame f (suc l) b vs x ∷ fs) S = enters_by_raise f S.0 (suc l) n vs fs

  raises : (f : FunctionNumber) (i : Handler) (n : ℤ) (b : Block) (vs : List ℤ) (fs : List Frame) → LookedUp f b fs
      → raised R (k + f) i n vs (map (renumbered_frame k) fs) ≡ map_outcome h (raised P f i n vs fs)
  raises f zero n b vs fs S = unwinds n fs S.frames
  raises f (suc l) n b vs fs S = enters_by_raise f S.running (suc l) n vs fs

  returns : (z : ℤ) (fs : List Frame) → returned z (map (renumbered_frame k) fs) ≡ map_outcome h (returned z fs)
  returns z [] = refl
  returns z (frame f i b vs x ∷ fs) = refl

  calls : (g : FunctionNumber) → Included k P R g → (zs : Option (List ℤ)) (fs : List Frame)
      → called_with R (k + g) zs (map (renumbered_frame k) fs) ≡ map_outcome h (called_with P g zs fs)
  calls g S zs fs =
      let rule : Function → Outcome State = λ G. given zs (λ args. next (begun (k + g) G args (map (renumbered_frame k) fs))) in
      ap (λ (o : Option Function). given o rule) S.there
      ∙ (given_map (renumbered_function k) (get_elem? P g) rule
      ∙ given_same h (get_elem? P g) _ _ (λ G. given_same h zs _ _ (λ args. refl)))

  steps : (d : ℕ) (T : State) → Standing T → step R d (h T) ≡ map_outcome h (step P d T)
  unfolding step
  steps d (state f i (constant x z b) vs fs) S = refl
  steps d (state f i (copy x y b) vs fs) S = given_same h (get_elem? vs y) _ _ (λ v. refl)
  steps d (state f i (difference x y z b) vs fs) S =
      given_same h (get_elem? vs y) _ _ (λ v. given_same h (get_elem? vs z) _ _ (λ w.
      cond_mapped h (in_range (v -ℤ w)) _ _ _ _ refl (raises f i (pos 0) (difference x y z b) vs fs S)))
  steps d (state f i (call x g ys b) vs fs) S =
      rw (length-map fs (renumbered_frame k))
      (cond_mapped h (leb d (length fs)) too_deep _ too_deep _ refl (calls g (S.called x g ys b refl) (values_of vs ys) (frame f i b vs x ∷ fs)))
  steps d (state f i (goto l) vs fs) S = enters f S.running l vs fs
  steps d (state f i (return x) vs fs) S = given_same h (get_elem? vs x) _ _ (λ v. returns v fs)
  steps d (state f i (branch y z l m) vs fs) S =
      given_same h (get_elem? vs y) _ _ (λ v. given_same h (get_elem? vs z) _ _ (λ w. enters f S.running (cond (at_most v w) l m) vs fs))
  steps d (state f i (raise r) vs fs) S = given_same h (number_raised vs r) _ _ (λ n. raises f i n (raise r) vs fs S)

  -- The bindings of a raise look at the version, the count of variables and the receivers, which stay.
  binds_same : (f : FunctionNumber) → Included k P R f → (i : Handler) (r : Option Variable) → bindings (function_of R (k + f)) i r ≡ bindings (function_of P f) i r
  binds_same f S zero none = ap (λ (F : Function). one (spare_slot F)) S.function
  binds_same f S zero (some y) = refl
  binds_same f S (suc l) r = ap (λ (o : Option Labelled). one (receiver_in o)) (label_stands f S (suc l)) ∙ by (labelled_at (function_of P f).blocks (suc l))
    where
      by : (o : Option Labelled) → one (receiver_in (Option.map (renumbered_labelled k) o)) ≡ one (receiver_in o)
      by none = refl
      by (some B) = refl

  raise_same : (f : FunctionNumber) → Included k P R f → (i : Handler) (r : Option Variable) (fs : List Frame) → raise_extra R (k + f) i r (map (renumbered_frame k) fs) ≡ raise_extra P f i r fs
  raise_same f S i r fs = λ j. binds_same f S i r j + outside_same k i fs j

  weighs : (T : State) → Standing T → extra R (h T) ≡ extra P T
  weighs (state f i (constant x z b) vs fs) S = refl
  weighs (state f i (copy x y b) vs fs) S = refl
  weighs (state f i (difference x y z b) vs fs) S =
      ap (λ (n : ℕ). cond (in_range (value_of vs y -ℤ value_of vs z)) 0 (suc n)) (raise_same f S.running i none fs)
  weighs (state f i (call x g ys b) vs fs) S = ap (λ (G : Function). suc G.locals) (S.called x g ys b refl).function
  weighs (state f i (goto l) vs fs) S = refl
  weighs (state f i (return x) vs fs) S = refl
  weighs (state f i (branch y z l m) vs fs) S = refl
  weighs (state f i (raise r) vs fs) S = raise_same f S.running i r fs

  module _ (Good : State → Type 0) (keeps : (d : ℕ) (T T' : State) → Good T → step P d T ≡ next T' → Good T')
      (standing : (T : State) → Good T → Standing T) where
    states_alike : (d n : ℕ) (T : State) → Good T
        → Alike (run (step P d) n T) (total (step P d) (extra P) n T) (run (step R d) n (h T)) (total (step R d) (extra R) n (h T))
    states_alike d =
        run_alike (step P d) (step R d) (extra P) (extra R) h Good (keeps d)
        (λ (T : State) g. steps d T (standing T g)) (λ (T : State) g. weighs T (standing T g))

    runs_alike : (f : FunctionNumber) (args : List ℤ) → Good (begun f (function_of P f) args []) → RunsAlike P f R (k + f) args
    unfolding bench extras
    runs_alike f args g =
        let start : State = begun f (function_of P f) args [] in
        let e : function_of R (k + f) ≡ renumbered_function k (function_of P f) = (standing start g).running.function in
        record {
          stop = λ d n. rw e (states_alike d n start g).stop;
          steps = λ d n. rw e (states_alike d n start g).steps;
          extras = λ d n. rw e (ap (λ (m : ℕ). (function_of P f).locals + m) (states_alike d n start g).sum);
        }

-- ── Well-formed ─────────────────────────────────────────────────────────────────────────────────

module _ (k : ℕ) (P R : Program) (stands : (g : FunctionNumber) → g < length P → Included k P R g) where
  is_there : (g : FunctionNumber) → g < length P → k + g < length R
  is_there g l =
      at_below R (k + g) (renumbered_function k (function_of P g))
      ((stands g l).there ∙ ap (Option.map (renumbered_function k)) (at_get_d P g no_function l))

  block_well_formed : (v n : ℕ) (b : Block) → WellFormedBlock P v n b → WellFormedBlock R v n (renumbered_block k b)
  block_well_formed v n (constant x i b) w = (w.0, block_well_formed v n b w.1)
  block_well_formed v n (copy x y b) w = (w.0, w.1, block_well_formed v n b w.2)
  block_well_formed v n (difference x y z b) w = (w.0, w.1, w.2, block_well_formed v n b w.3)
  block_well_formed v n (call x g ys b) w = (
    w.0,
    is_there g w.1,
    w.2 ∙ sym (ap (λ (G : Function). G.params) (stands g w.1).function),
    w.3,
    block_well_formed v n b w.4,
  )
  block_well_formed v n (goto l) w = w
  block_well_formed v n (return x) w = w
  block_well_formed v n (branch y z l m) w = w
  block_well_formed v n (raise r) w = w

  labelled_well_formed : (v n : ℕ) (B : Labelled) → WellFormedLabelled P v n B → WellFormedLabelled R v n (renumbered_labelled k B)
  labelled_well_formed v n B w = record { handler = w.handler; receiver = w.receiver; block = block_well_formed v n B.block w.block }

  function_well_formed : (F : Function) → WellFormedFunction P F → WellFormedFunction R (renumbered_function k F)
  function_well_formed F w =
      let n : ℕ = length F.blocks in
      let v : ℕ = variables F in
      let e : length (map (renumbered_labelled k) F.blocks) ≡ n = length-map F.blocks (renumbered_labelled k) in
      record {
        entry = subst (λ (m : ℕ). WellFormedBlock R v m (renumbered_block k F.entry)) (sym e) (block_well_formed v n F.entry w.entry);
        blocks = subst (λ (m : ℕ). All (WellFormedLabelled R v m) (map (renumbered_labelled k) F.blocks)) (sym e)
            (all_mapped (WellFormedLabelled R v n) (WellFormedLabelled P v n) (renumbered_labelled k) F.blocks (labelled_well_formed v n) w.blocks);
      }

  functions_well_formed : WellFormed P → All (WellFormedFunction R) (map (renumbered_function k) P)
  functions_well_formed W = all_mapped (WellFormedFunction R) (WellFormedFunction P) (renumbered_function k) P function_well_formed W

-- ── Merged ──────────────────────────────────────────────────────────────────────────────────────

module _ (P Q : Program) where
  pub merged_length : length (merged P Q) ≡ length P + length Q
  unfolding merged
  merged_length =
      length-append P (map (renumbered_function (length P)) Q) ∙ ap (λ (n : ℕ). length P + n) (length-map Q (renumbered_function (length P)))

  pub merged_first : (f : FunctionNumber) → f < length P → function_of (merged P Q) f ≡ function_of P f
  unfolding merged
  merged_first f l = get_or-append P (map (renumbered_function (length P)) Q) no_function f l

  pub merged_second : (f : FunctionNumber) → function_of (merged P Q) (length P + f) ≡ renumbered_function (length P) (function_of Q f)
  unfolding merged
  merged_second f =
      let r : Function → Function = renumbered_function (length P) in
      get_or-append-add P (map r Q) f no_function ∙ get_or-map r Q f no_function

  first_stands : (g : FunctionNumber) → g < length P → Included 0 P (merged P Q) g
  unfolding merged
  first_stands g l =
      let same : function_of P g ≡ renumbered_function 0 (function_of P g) = sym (zero_function (function_of P g)) in
      record {
        there = rw (zero-add g, at_append_left P (map (renumbered_function (length P)) Q) g l, at_get_d P g no_function l) (ap some same);
        function = rw (zero-add g, merged_first g l) same;
      }

  second_stands : (g : FunctionNumber) → Included (length P) Q (merged P Q) g
  unfolding merged
  second_stands g =
      let r : Function → Function = renumbered_function (length P) in
      record { there = at_append_right P (map r Q) g ∙ at_map_any r Q g; function = merged_second g }

  merged_well_formed : WellFormed P → WellFormed Q → WellFormed (merged P Q)
  unfolding merged
  merged_well_formed W U =
      all_append (WellFormedFunction (merged P Q)) P (map (renumbered_function (length P)) Q)
      (subst (All (WellFormedFunction (merged P Q))) (map_same (renumbered_function 0) zero_function P)
      (functions_well_formed 0 P (merged P Q) first_stands W))
      (functions_well_formed (length P) Q (merged P Q) (λ g l. second_stands g) U)

  first_alike : WellFormed P → (f : FunctionNumber) → f < length P → (args : List ℤ) → length args ≡ (function_of P f).params
      → RunsAlike P f (merged P Q) f args
  first_alike W f l args la =
      subst (λ (g : FunctionNumber). RunsAlike P f (merged P Q) g args) (zero-add f)
      (runs_alike 0 P (merged P Q) (WellFormedState P) (λ d S S' w e. (step_well_formed P W d S S' w e).0) standing f args
      (start_well_formed P W f l args la))
    where
      waits : (r : Frame) → WellFormedFrame P r → Included 0 P (merged P Q) (function_in r)
      waits (frame g i b vs x) w = first_stands g w.0.function

      standing : (T : State) → WellFormedState P T → Standing 0 P (merged P Q) T
      standing (state g i b vs fs) w =
          let v : ℕ = variables (function_of P g) in
          let n : ℕ = length (function_of P g).blocks in
          record {
            running = first_stands g w.0.function;
            called = λ x j ys b' e. first_stands j (subst (WellFormedBlock P v n) e w.0.block).1;
            frames = all_mapped (Included 0 P (merged P Q)) (WellFormedFrame P) function_in fs waits w.1;
          }

  second_alike : (f : FunctionNumber) (args : List ℤ) → RunsAlike Q f (merged P Q) (length P + f) args
  second_alike f args =
      runs_alike (length P) Q (merged P Q) (λ S. Unit {0}) (λ d S S' w e. tt) standing f args tt
    where
      standing : (T : State) → Unit {0} → Standing (length P) Q (merged P Q) T
      standing (state g i b vs fs) w =
          record {
            running = second_stands g;
            called = λ x j ys b' e. second_stands j;
            frames = all_every (Included (length P) Q (merged P Q)) second_stands (map function_in fs);
          }

pub merged_runs_alike : MergedRunsAlike
merged_runs_alike = record { well_formed = merged_well_formed; first = first_alike; second = second_alike }
