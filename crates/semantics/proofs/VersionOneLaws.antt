-- Document 02, Slip 7: programs and code of version 1 translate and run as before that request.
use Prim.Native.Nat.{ℕ, zero, suc, ◌+◌}
use Rattle.std.proofs.Common.{zero-add, arith, ◌∙◌}
use Rattle.std.specs.Prelude.{◌≡◌, Bool, ℤ, pos, ◌-ℤ◌, length, set}
use Rattle.std.proofs.Math.Path.{refl, sym, ap, subst}
use Rattle.std.proofs.Math.Bool.{true, false, cond}
use mathlib.Core.List.{List, [], ◌∷◌, ◌++◌, map}
use Rattle.std.proofs.Math.Option.{Option, none, some}
use Rattle.std.proofs.Math.ListN.{get_elem?}
use Rattle.semantics.specs.Value.{in_range, at_most}
use Rattle.semantics.specs.Program.{FunctionNumber, Variable, Label, Handler, Block, constant, copy, difference, call, goto, return, branch, raise, Labelled, Function, Program, variables, no_function, function_of}
use Rattle.semantics.specs.Run.{End, value, uncaught, Outcome, next, Result}
use Rattle.semantics.specs.Bench.{Frame, frame, State, state, given, values_of, labelled_at, received, enter, returned, enter_by_raise, unwound, raised, number_raised, begun, within, step, bench}
use Rattle.semantics.specs.WellFormed.{All}
use Rattle.semantics.specs.Code.{Slot, Expr, let_constant, let_slot, let_difference, jump, resume, handle, if_at_most, let_continuation, let_continuation_with_handler, let_difference_or_raise, Target, Code}
use Rattle.semantics.specs.Controller.{whole, continuation, handler, binding_at, bind, as_whole, as_continuation, as_handler, wholes_of, number_in, bind_number, Record, closure, Control, control, oldest, resumed, resume_with, handled, handle_with, no_target, control_step, started, controller}
use Rattle.semantics.specs.Translation.{slot_of, to_label, spare_slot, receiver_in, receiver_at, receiver_slot, parameter_slot, bind_raised, raise_code, code, bind_zeros, block_target, targets, number, translate_from, translate}
use Rattle.semantics.specs.Extras.{caught_outside, one, bindings, raise_extra, value_of, extra, extras}
use Rattle.semantics.specs.VersionOne.{BlockOne, FunctionOne, ProgramOne, ExprOne, CodeOne, unwound₁, raised₁, step₁, bench₁, extra₁, extras₁, raise_code₁, code₁, block_target₁, translate_from₁, translate₁, handled₁, handle_with₁, control_step₁, controller₁, ReportsZero, VersionOne}
use Rattle.semantics.proofs.ListLaws.{all_at, all_look}
use Rattle.semantics.proofs.KeepLaws.{LeadsTo, StopsIn, run_stops_in, run_same, total_same, leads_given, leads_two, leads_cond, leads_within, given_alike}
use Rattle.semantics.proofs.Follow.{oldest_keeps}

-- An end that reports no other number than 0.
abbrev ZeroEnd : End → Type 0
ZeroEnd (value z) = Unit {0}
ZeroEnd (uncaught z) = z ≡ pos 0

reports_zero : {S : Type 0} (Good : S → Type 0) (R : ℕ → Result S) → ((n : ℕ) → StopsIn Good ZeroEnd (R n).stop) → ReportsZero R
reports_zero Good R h n z e = subst (StopsIn Good ZeroEnd) e (h n)

-- ── The bench ───────────────────────────────────────────────────────────────────────────────────

abbrev LabelledOne : Labelled → Type 0
LabelledOne B = (B.receiver ≡ none) × BlockOne B.block

label_one : (F : Function) → FunctionOne F → (l : Label) (B : Labelled) → labelled_at F.blocks l ≡ some B → LabelledOne B
label_one F O zero B e = let z : ◌≡◌ {A = ℕ} 0 1 = cc in absurd (omega arith)
label_one F O (suc l) B e = all_at LabelledOne F.blocks l B O.blocks e

receiver_none : (F : Function) → FunctionOne F → (l : Label) → receiver_at F l ≡ none
receiver_none F O l = by (labelled_at F.blocks l) refl
  where
    by : (o : Option Labelled) → labelled_at F.blocks l ≡ o → receiver_in o ≡ none
    by none e = refl
    by (some B) e = (label_one F O l B e).0

spare_none : (F : Function) → FunctionOne F → spare_slot F ≡ none
spare_none F O = rw O.version refl

abbrev FrameOne : Frame → Type 0
FrameOne (frame f h b vs x) = BlockOne b

abbrev StateOne : State → Type 0
StateOne (state f h b vs fs) = BlockOne b × All FrameOne fs

module _ (P : Program) (is_one : ProgramOne P) where
  function_one : (f : FunctionNumber) → FunctionOne (function_of P f)
  function_one f = all_look FunctionOne P f no_function is_one (record { version = refl; entry = refl; blocks = tt })

  -- The steps are the same.
  enters : (f : FunctionNumber) (l : Label) (n : ℤ) (vs : List ℤ) (fs : List Frame) → enter P f l vs fs ≡ enter_by_raise P f l n vs fs
  enters f l n vs fs =
      given_alike (labelled_at (function_of P f).blocks l) _ _
      (λ B e. ap (λ (r : Option Variable). next (state f B.handler B.block (received r n vs) fs)) (sym (label_one (function_of P f) (function_one f) l B e).0))

  unwinds : (fs : List Frame) → unwound₁ P fs ≡ unwound P (pos 0) fs
  unwinds [] = refl
  unwinds (frame f zero b vs x ∷ fs) = unwinds fs
  unwinds (frame f (suc l) b vs x ∷ fs) = enters f (suc l) (pos 0) vs fs

  raises : (f : FunctionNumber) (h : Handler) (vs : List ℤ) (fs : List Frame) → raised₁ P f h vs fs ≡ raised P f h (pos 0) vs fs
  raises f zero vs fs = unwinds fs
  raises f (suc l) vs fs = enters f (suc l) (pos 0) vs fs

  steps : (d : ℕ) (S : State) → StateOne S → step₁ P d S ≡ step P d S
  unfolding step step₁
  steps d (state f h (constant x i b) vs fs) o = refl
  steps d (state f h (copy x y b) vs fs) o = refl
  steps d (state f h (difference x y z b) vs fs) o =
      given_alike (get_elem? vs y) _ _ (λ v e. given_alike (get_elem? vs z) _ _ (λ w e'.
      ap (λ (u : Outcome State). cond (in_range (v -ℤ w)) (next (state f h b (set vs x (v -ℤ w)) fs)) u) (raises f h vs fs)))
  steps d (state f h (call x g ys b) vs fs) o = refl
  steps d (state f h (goto l) vs fs) o = refl
  steps d (state f h (return x) vs fs) o = refl
  steps d (state f h (branch y z l m) vs fs) o = refl
  steps d (state f h (raise r) vs fs) o =
      raises f h vs fs ∙ ap (λ (q : Option Variable). given (number_raised vs q) (λ (n : ℤ). raised P f h n vs fs)) (sym o.0)

  -- They lead to states without operation 9, or to an end with 0.
  Kept : Outcome State → Type 0
  Kept o = LeadsTo StateOne ZeroEnd o

  enters_kept : (f : FunctionNumber) (l : Label) (vs : List ℤ) (fs : List Frame) → All FrameOne fs → Kept (enter P f l vs fs)
  unfolding Kept
  enters_kept f l vs fs a = leads_given StateOne ZeroEnd (labelled_at (function_of P f).blocks l) _ (λ B e. ((label_one (function_of P f) (function_one f) l B e).1, a))

  unwinds_kept : (fs : List Frame) → All FrameOne fs → Kept (unwound₁ P fs)
  unfolding Kept
  unwinds_kept [] a = refl
  unwinds_kept (frame f zero b vs x ∷ fs) a = unwinds_kept fs a.1
  unwinds_kept (frame f (suc l) b vs x ∷ fs) a = enters_kept f (suc l) vs fs a.1

  raises_kept : (f : FunctionNumber) (h : Handler) (vs : List ℤ) (fs : List Frame) → All FrameOne fs → Kept (raised₁ P f h vs fs)
  raises_kept f zero vs fs a = unwinds_kept fs a
  raises_kept f (suc l) vs fs a = enters_kept f (suc l) vs fs a

  returns_kept : (z : ℤ) (fs : List Frame) → All FrameOne fs → Kept (returned z fs)
  unfolding Kept
  returns_kept z [] a = tt
  returns_kept z (frame f h b vs x ∷ fs) a = a

  step_kept : (d : ℕ) (S : State) → StateOne S → LeadsTo StateOne ZeroEnd (step₁ P d S)
  unfolding step₁ Kept
  step_kept d (state f h (constant x i b) vs fs) o = o
  step_kept d (state f h (copy x y b) vs fs) o = leads_given StateOne ZeroEnd (get_elem? vs y) _ (λ v e. o)
  step_kept d (state f h (difference x y z b) vs fs) o =
      leads_two StateOne ZeroEnd (get_elem? vs y) (get_elem? vs z) _ (λ v w. leads_cond StateOne ZeroEnd (in_range (v -ℤ w)) _ _ o (raises_kept f h vs fs o.1))
  step_kept d (state f h (call x g ys b) vs fs) o =
      leads_within StateOne ZeroEnd d (length fs) _
      (leads_given StateOne ZeroEnd (get_elem? P g) _ (λ G e. leads_given StateOne ZeroEnd (values_of vs ys) _ (λ args e'. ((all_at FunctionOne P g G is_one e).entry, o))))
  step_kept d (state f h (goto l) vs fs) o = enters_kept f l vs fs o.1
  step_kept d (state f h (return x) vs fs) o = leads_given StateOne ZeroEnd (get_elem? vs x) _ (λ v e. returns_kept v fs o.1)
  step_kept d (state f h (branch y z l m) vs fs) o =
      leads_two StateOne ZeroEnd (get_elem? vs y) (get_elem? vs z) _ (λ v w. enters_kept f (cond (at_most v w) l m) vs fs o.1)
  step_kept d (state f h (raise r) vs fs) o = raises_kept f h vs fs o.1

  -- The extras are the same.
  raise_weighs : (f : FunctionNumber) (h : Handler) (fs : List Frame) → caught_outside h fs ≡ raise_extra P f h none fs
  raise_weighs f h fs = sym (ap (λ (k : ℕ). k + caught_outside h fs) (binds h) ∙ zero-add (caught_outside h fs))
    where
      binds : (i : Handler) → bindings (function_of P f) i none ≡ 0
      binds zero = ap (λ (o : Option Slot). one o) (spare_none (function_of P f) (function_one f))
      binds (suc l) = ap (λ (o : Option Variable). one o) (receiver_none (function_of P f) (function_one f) (suc l))

  weighs : (S : State) → StateOne S → extra₁ P S ≡ extra P S
  weighs (state f h (constant x i b) vs fs) o = refl
  weighs (state f h (copy x y b) vs fs) o = refl
  weighs (state f h (difference x y z b) vs fs) o = ap (λ (n : ℕ). cond (in_range (value_of vs y -ℤ value_of vs z)) 0 (suc n)) (raise_weighs f h fs)
  weighs (state f h (call x g ys b) vs fs) o = refl
  weighs (state f h (goto l) vs fs) o = refl
  weighs (state f h (return x) vs fs) o = refl
  weighs (state f h (branch y z l m) vs fs) o = refl
  weighs (state f h (raise r) vs fs) o = raise_weighs f h fs ∙ ap (λ (q : Option Variable). raise_extra P f h q fs) (sym o.0)

  module _ (f : FunctionNumber) (args : List ℤ) (d : ℕ) where
    start : State
    start = begun f (function_of P f) args []

    start_one : StateOne start
    unfolding start
    start_one = ((function_one f).entry, tt)

    runs_same : (n : ℕ) → bench P f args d n ≡ bench₁ P f args d n
    unfolding bench bench₁ start
    runs_same n = sym (run_same (step₁ P d) StateOne ZeroEnd (step_kept d) (step P d) (steps d) n start start_one)

    extras_same : (n : ℕ) → extras P f args d n ≡ extras₁ P f args d n
    unfolding extras extras₁ start
    extras_same n = ap (λ (k : ℕ). (function_of P f).locals + k) (sym (total_same (step₁ P d) StateOne ZeroEnd (step_kept d) (step P d) (steps d) (extra₁ P) (extra P) weighs n start start_one))

    bench_zero : ReportsZero (bench P f args d)
    unfolding bench₁ start
    bench_zero =
        reports_zero StateOne (bench P f args d)
        (λ n. subst (λ (r : Result State). StopsIn StateOne ZeroEnd r.stop) (sym (runs_same n)) (run_stops_in (step₁ P d) StateOne ZeroEnd (step_kept d) n start start_one))

-- ── The translation ─────────────────────────────────────────────────────────────────────────────

module _ (numbers : FunctionNumber → ℕ) where
  module _ (base : ℕ) (F : Function) (is_one : FunctionOne F) where
    raise_code_lem : (h : Handler) → raise_code base F h none ≡ raise_code₁ base F h
    raise_code_lem zero = ap (λ (s : Option Slot). bind_raised s none (handle 1 s)) (spare_none F is_one)
    raise_code_lem (suc l) = ap (λ (r : Option Variable). bind_raised (receiver_slot r) none (to_label base (variables F) (suc l))) (receiver_none F is_one (suc l))

    codes : (h : Handler) (b : Block) → BlockOne b → code numbers base F h b ≡ code₁ numbers base F h b
    unfolding code code₁
    codes h (constant x i b) o = ap (let_constant (slot_of x) i) (codes h b o)
    codes h (copy x y b) o = ap (let_slot (slot_of x) (slot_of y)) (codes h b o)
    codes h (difference x y z b) o = λ i. let_difference_or_raise (slot_of x) (slot_of y) (slot_of z) (raise_code_lem h i) (codes h b o i)
    codes zero (call x g ys b) o =
        ap (let_continuation (slot_of (variables F)) (slot_of x) (jump (numbers g) (slot_of (variables F)) 1 (map slot_of ys))) (codes zero b o)
    codes (suc l) (call x g ys b) o =
        let none_is : parameter_slot F (receiver_at F (suc l)) ≡ none = ap (parameter_slot F) (receiver_none F is_one (suc l)) ∙ spare_none F is_one in
        λ i. let_continuation_with_handler (slot_of (variables F)) (slot_of x) (slot_of (suc (variables F))) (none_is i)
        (jump (numbers g) (slot_of (variables F)) (slot_of (suc (variables F))) (map slot_of ys)) (to_label base (variables F) (suc l)) (codes (suc l) b o i)
    codes h (goto l) o = refl
    codes h (return x) o = refl
    codes h (branch y z l m) o = refl
    codes h (raise r) o = ap (raise_code base F h) o ∙ raise_code_lem h

    blocks_same : (Bs : List Labelled) → All LabelledOne Bs → map (block_target numbers base F) Bs ≡ map (block_target₁ numbers base F) Bs
    blocks_same [] a = refl
    blocks_same (B ∷ Bs) a = λ i. record { version = is_one.version i; params = variables F; body = codes B.handler B.block a.0.1 i } ∷ blocks_same Bs a.1 i

  functions_same : (base : ℕ) (Fs : List Function) → All FunctionOne Fs → translate_from numbers base Fs ≡ translate_from₁ numbers base Fs
  functions_same base [] a = refl
  functions_same base (F ∷ Fs) a = λ i.
      (record { version = a.0.version i; params = F.params; body = bind_zeros (slot_of F.params) F.locals (codes base F a.0 0 F.entry a.0.entry i) }
      ∷ blocks_same base F a.0 F.blocks a.0.blocks i)
      ++ functions_same (base + targets F) Fs a.1 i

translates_same : (P : Program) → ProgramOne P → translate P ≡ translate₁ P
unfolding translate translate₁
translates_same P a = functions_same (number P) 0 P a

-- ── The controller ──────────────────────────────────────────────────────────────────────────────

abbrev HandlerOne : Option Expr → Type 0
HandlerOne none = Unit {0}
HandlerOne (some h) = ExprOne h

abbrev RecordOne : Record → Type 0
RecordOne (closure env p e h q) = (q ≡ none) × ExprOne e × HandlerOne h

abbrev ControlOne : Control → Type 0
ControlOne (control e env rs) = ExprOne e × All RecordOne rs

applied_one : (n : ℕ) (rs : List Record) → All RecordOne rs → All RecordOne (oldest n rs)
applied_one n rs a = oldest_keeps (All RecordOne) tt (λ r older k. k.1) n rs a

handles : (n : ℕ) (rs : List Record) → All RecordOne rs → handle_with₁ n rs ≡ handle_with n (pos 0) rs
handles zero rs a = refl
handles (suc n) rs a = by (oldest (suc n) rs) (applied_one (suc n) rs a)
  where
    by : (older : List Record) → All RecordOne older → handled₁ older ≡ handled (pos 0) older
    by [] k = refl
    by (closure env p e none q ∷ older) k = refl
    by (closure env p e (some b) q ∷ older) k = ap (λ (o : Option Slot). next (control b (bind_number env o (pos 0)) older)) (sym k.0.0)

handles_kept : (n : ℕ) (rs : List Record) → All RecordOne rs → LeadsTo ControlOne ZeroEnd (handle_with₁ n rs)
handles_kept zero rs a = refl
handles_kept (suc n) rs a = by (oldest (suc n) rs) (applied_one (suc n) rs a)
  where
    by : (older : List Record) → All RecordOne older → LeadsTo ControlOne ZeroEnd (handled₁ older)
    by [] k = tt
    by (closure env p e none q ∷ older) k = tt
    by (closure env p e (some b) q ∷ older) k = (k.0.2, k.1)

resumes_kept : (n : ℕ) (z : ℤ) (rs : List Record) → All RecordOne rs → LeadsTo ControlOne ZeroEnd (resume_with n z rs)
resumes_kept zero z rs a = tt
resumes_kept (suc n) z rs a = by (oldest (suc n) rs) (applied_one (suc n) rs a)
  where
    by : (older : List Record) → All RecordOne older → LeadsTo ControlOne ZeroEnd (resumed z older)
    by [] k = tt
    by (closure env p e h q ∷ older) k = (k.0.1, k.1)

module _ (Q : Code) (is_one : CodeOne Q) (d : ℕ) where
  control_steps : (C : Control) → ControlOne C → control_step₁ Q d C ≡ control_step Q d C
  unfolding control_step control_step₁
  control_steps (control (let_constant x i e) env rs) o = refl
  control_steps (control (let_slot x y e) env rs) o = refl
  control_steps (control (let_difference x y z e) env rs) o = refl
  control_steps (control (jump g k h ss) env rs) o = refl
  control_steps (control (resume k y) env rs) o = refl
  control_steps (control (handle h y) env rs) o =
      given_alike (as_handler (binding_at env h)) _ _
      (λ n e. handles n rs o.1 ∙ ap (λ (r : Option Slot). given (number_in env r) (λ (z : ℤ). handle_with n z rs)) (sym o.0))
  control_steps (control (if_at_most y z e₁ e₂) env rs) o = refl
  control_steps (control (let_continuation x p e k) env rs) o = refl
  control_steps (control (let_continuation_with_handler x p t q e h k) env rs) o =
      ap (λ (r : Option Slot). within d (length rs) (next (control e (bind (bind env x (continuation (suc (length rs)))) t (handler (suc (length rs)))) (closure env p k (some h) r ∷ rs)))) (sym o.0.0)
  control_steps (control (let_difference_or_raise x y z r e) env rs) o = refl

  control_kept : (C : Control) → ControlOne C → LeadsTo ControlOne ZeroEnd (control_step₁ Q d C)
  unfolding control_step₁
  control_kept (control (let_constant x i e) env rs) o = o
  control_kept (control (let_slot x y e) env rs) o = leads_given ControlOne ZeroEnd (as_whole (binding_at env y)) _ (λ v q. o)
  control_kept (control (let_difference x y z e) env rs) o = leads_two ControlOne ZeroEnd (as_whole (binding_at env y)) (as_whole (binding_at env z)) _ (λ v w. o)
  control_kept (control (jump g k h ss) env rs) o =
      leads_given ControlOne ZeroEnd (get_elem? Q g) _ (λ D q. leads_two ControlOne ZeroEnd (as_continuation (binding_at env k)) (as_handler (binding_at env h)) _ (λ m n.
      leads_given ControlOne ZeroEnd (wholes_of env ss) _ (λ zs e. (all_at (λ (D' : Target). ExprOne D'.body) Q g D is_one q, o.1))))
  control_kept (control (resume k y) env rs) o =
      leads_two ControlOne ZeroEnd (as_continuation (binding_at env k)) (as_whole (binding_at env y)) _ (λ n v. resumes_kept n v rs o.1)
  control_kept (control (handle h y) env rs) o = leads_given ControlOne ZeroEnd (as_handler (binding_at env h)) _ (λ n q. handles_kept n rs o.1)
  control_kept (control (if_at_most y z e₁ e₂) env rs) o =
      leads_two ControlOne ZeroEnd (as_whole (binding_at env y)) (as_whole (binding_at env z)) _ (λ v w. (part (at_most v w), o.1))
    where
      part : (c : Bool) → ExprOne (cond c e₁ e₂)
      part true = o.0.0
      part false = o.0.1
  control_kept (control (let_continuation x p e k) env rs) o =
      leads_within ControlOne ZeroEnd d (length rs) _ ((o.0.0, ((refl, o.0.1, tt), o.1)))
  control_kept (control (let_continuation_with_handler x p t q e h k) env rs) o =
      leads_within ControlOne ZeroEnd d (length rs) _ ((o.0.1, ((refl, o.0.3, o.0.2), o.1)))
  control_kept (control (let_difference_or_raise x y z r e) env rs) o =
      leads_two ControlOne ZeroEnd (as_whole (binding_at env y)) (as_whole (binding_at env z)) _ (λ v w. part (in_range (v -ℤ w)) (v -ℤ w))
    where
      part : (c : Bool) (i : ℤ) → ControlOne (cond c (control e (bind env x (whole i)) rs) (control r env rs))
      part true i = (o.0.1, o.1)
      part false i = (o.0.0, o.1)

  module _ (g : ℕ) (args : List ℤ) where
    started_one : ControlOne (started Q g args)
    started_one = (all_look (λ (D : Target). ExprOne D.body) Q g no_target is_one refl, tt)

    controls_same : (n : ℕ) → controller Q g args d n ≡ controller₁ Q g args d n
    unfolding controller controller₁
    controls_same n = sym (run_same (control_step₁ Q d) ControlOne ZeroEnd control_kept (control_step Q d) control_steps n (started Q g args) started_one)

    controller_zero : ReportsZero (controller Q g args d)
    unfolding controller₁
    controller_zero =
        reports_zero ControlOne (controller Q g args d)
        (λ n. subst (λ (r : Result Control). StopsIn ControlOne ZeroEnd r.stop) (sym (controls_same n)) (run_stops_in (control_step₁ Q d) ControlOne ZeroEnd control_kept n (started Q g args) started_one))

pub version_one : VersionOne
version_one =
    record {
      translates = translates_same;
      bench = λ P a f args d. (λ n. (runs_same P a f args d n, extras_same P a f args d n), bench_zero P a f args d);
      controller = λ Q a g args d. (controls_same Q a d g args, controller_zero Q a d g args);
    }
