-- Document 02, Slip 7: "Version 1 files translate and run as ever." The rules as they were before that request: each clause with every part that
-- version 2 brought left out. A name that ends in ₁ is such a rule. VersionOneLaws.antt proves that programs and code of version 1 run by them.
use Rattle.std.specs.Prelude.{ℕ, zero, suc, ◌+◌, ◌≡◌, cond, List, [], ◌∷◌, ◌++◌, map, ℤ, pos, ◌-ℤ◌, length, set}
use Rattle.std.proofs.Math.Option.{none, some}
use Rattle.std.proofs.Math.ListN.{get_elem?}
use Rattle.semantics.specs.Value.{minus, in_range, at_most}
use Rattle.semantics.specs.Program.{FunctionNumber, Handler, Block, constant, copy, difference, call, goto, return, branch, raise, Labelled, Function, Program, variables, function_of}
use Rattle.semantics.specs.Run.{uncaught, Outcome, next, end, stuck, ended, Result, run, total}
use Rattle.semantics.specs.Bench.{Frame, frame, State, state, given, values_of, enter, returned, begun, within, bench}
use Rattle.semantics.specs.WellFormed.{All}
use Rattle.semantics.specs.Code.{Expr, let_constant, let_slot, let_difference, jump, resume, handle, if_at_most, let_continuation, let_continuation_with_handler, let_difference_or_raise, Target, Code}
use Rattle.semantics.specs.Controller.{whole, continuation, handler, binding_at, bind, as_whole, as_continuation, as_handler, wholes_of, Record, closure, Control, control, oldest, resume_with, parameters, started, controller}
use Rattle.semantics.specs.Translation.{slot_of, to_label, bind_zeros, targets, number, translate}
use Rattle.semantics.specs.Extras.{caught_outside, value_of, extras}

-- ── Programs and code of version 1 ──────────────────────────────────────────────────────────────

-- A block without operation 9.
abbrev pub BlockOne : Block → Type 0
BlockOne (constant x i b) = BlockOne b
BlockOne (copy x y b) = BlockOne b
BlockOne (difference x y z b) = BlockOne b
BlockOne (call x g ys b) = BlockOne b
BlockOne (goto l) = Unit {0}
BlockOne (return x) = Unit {0}
BlockOne (branch y z l m) = Unit {0}
BlockOne (raise r) = r ≡ none

-- A function of version 1: no block has a receiver.
pub record FunctionOne (F : Function) : Type 0 where
  pub version : F.version ≡ 1
  pub entry : BlockOne F.entry
  pub blocks : All (λ B. (B.receiver ≡ none) × BlockOne B.block) F.blocks

abbrev pub ProgramOne : Program → Type 0
ProgramOne P = All FunctionOne P

-- Code without the slots that version 2 gives tags 6 and 9.
abbrev pub ExprOne : Expr → Type 0
ExprOne (let_constant x i e) = ExprOne e
ExprOne (let_slot x y e) = ExprOne e
ExprOne (let_difference x y z e) = ExprOne e
ExprOne (jump g k h ss) = Unit {0}
ExprOne (resume k y) = Unit {0}
ExprOne (handle h y) = y ≡ none
ExprOne (if_at_most y z e₁ e₂) = ExprOne e₁ × ExprOne e₂
ExprOne (let_continuation x p e k) = ExprOne e × ExprOne k
ExprOne (let_continuation_with_handler x p t q e h k) = (q ≡ none) × ExprOne e × ExprOne h × ExprOne k
ExprOne (let_difference_or_raise x y z r e) = ExprOne r × ExprOne e

abbrev pub CodeOne : Code → Type 0
CodeOne Q = All (λ D. ExprOne D.body) Q

-- ── The bench ───────────────────────────────────────────────────────────────────────────────────

-- A raise enters a block as a goto does. A run that ends uncaught reports 0.
abbrev pub unwound₁ : Program → List Frame → Outcome State
unwound₁ P [] = end (uncaught (pos 0))
unwound₁ P (frame f zero b vs x ∷ fs) = unwound₁ P fs
unwound₁ P (frame f (suc l) b vs x ∷ fs) = enter P f (suc l) vs fs

abbrev pub raised₁ : Program → FunctionNumber → Handler → List ℤ → List Frame → Outcome State
raised₁ P f zero vs fs = unwound₁ P fs
raised₁ P f (suc l) vs fs = enter P f (suc l) vs fs

unfoldable pub step₁ : Program → ℕ → State → Outcome State
step₁ P d (state f h (constant x i b) vs fs) = next (state f h b (set vs x i) fs)
step₁ P d (state f h (copy x y b) vs fs) = given (get_elem? vs y) (λ v. next (state f h b (set vs x v) fs))
step₁ P d (state f h (difference x y z b) vs fs) =
    given (get_elem? vs y) (λ v. given (get_elem? vs z) (λ w.
    cond (in_range (v -ℤ w)) (next (state f h b (set vs x (v -ℤ w)) fs)) (raised₁ P f h vs fs)))
step₁ P d (state f h (call x g ys b) vs fs) =
    within d (length fs)
    (given (get_elem? P g) (λ G. given (values_of vs ys) (λ args. next (begun g G args (frame f h b vs x ∷ fs)))))
step₁ P d (state f h (goto l) vs fs) = enter P f l vs fs
step₁ P d (state f h (return x) vs fs) = given (get_elem? vs x) (λ v. returned v fs)
step₁ P d (state f h (branch y z l m) vs fs) =
    given (get_elem? vs y) (λ v. given (get_elem? vs z) (λ w. enter P f (cond (at_most v w) l m) vs fs))
step₁ P d (state f h (raise r) vs fs) = raised₁ P f h vs fs

unfoldable pub bench₁ : Program → FunctionNumber → List ℤ → ℕ → ℕ → Result State
bench₁ P f args d budget = run (step₁ P d) budget (begun f (function_of P f) args [])

-- Extras: nothing is bound at a raise.
abbrev pub extra₁ : Program → State → ℕ
extra₁ P (state f h (constant x i b) vs fs) = 0
extra₁ P (state f h (copy x y b) vs fs) = 0
extra₁ P (state f h (difference x y z b) vs fs) = cond (in_range (value_of vs y -ℤ value_of vs z)) 0 (suc (caught_outside h fs))
extra₁ P (state f h (call x g ys b) vs fs) = suc (function_of P g).locals
extra₁ P (state f h (goto l) vs fs) = 0
extra₁ P (state f h (return x) vs fs) = 0
extra₁ P (state f h (branch y z l m) vs fs) = 1
extra₁ P (state f h (raise r) vs fs) = caught_outside h fs

unfoldable pub extras₁ : Program → FunctionNumber → List ℤ → ℕ → ℕ → ℕ
extras₁ P f args d budget = (function_of P f).locals + total (step₁ P d) (extra₁ P) budget (begun f (function_of P f) args [])

-- ── The translation ─────────────────────────────────────────────────────────────────────────────

-- A raise under a handler is the jump, without one tag 6 with slot 1.
abbrev pub raise_code₁ : ℕ → Function → Handler → Expr
raise_code₁ base F zero = handle 1 none
raise_code₁ base F (suc l) = to_label base (variables F) (suc l)

unfoldable pub code₁ : (FunctionNumber → ℕ) → ℕ → Function → Handler → Block → Expr
code₁ numbers base F h (constant x i b) = let_constant (slot_of x) i (code₁ numbers base F h b)
code₁ numbers base F h (copy x y b) = let_slot (slot_of x) (slot_of y) (code₁ numbers base F h b)
code₁ numbers base F h (difference x y z b) =
    let_difference_or_raise (slot_of x) (slot_of y) (slot_of z) (raise_code₁ base F h) (code₁ numbers base F h b)
code₁ numbers base F zero (call x g ys b) =
    let_continuation (slot_of (variables F)) (slot_of x) (jump (numbers g) (slot_of (variables F)) 1 (map slot_of ys)) (code₁ numbers base F zero b)
code₁ numbers base F (suc l) (call x g ys b) =
    let_continuation_with_handler (slot_of (variables F)) (slot_of x) (slot_of (suc (variables F))) none
    (jump (numbers g) (slot_of (variables F)) (slot_of (suc (variables F))) (map slot_of ys))
    (to_label base (variables F) (suc l))
    (code₁ numbers base F (suc l) b)
code₁ numbers base F h (goto l) = to_label base (variables F) l
code₁ numbers base F h (return x) = resume 0 (slot_of x)
code₁ numbers base F h (branch y z l m) = if_at_most (slot_of y) (slot_of z) (to_label base (variables F) l) (to_label base (variables F) m)
code₁ numbers base F h (raise r) = raise_code₁ base F h

-- A function of the translation.
abbrev pub target₁ : ℕ → Expr → Target
target₁ params body = record { version = 1; params = params; body = body }

abbrev pub block_target₁ : (FunctionNumber → ℕ) → ℕ → Function → Labelled → Target
block_target₁ numbers base F B = target₁ (variables F) (code₁ numbers base F B.handler B.block)

abbrev pub translate_from₁ : (FunctionNumber → ℕ) → ℕ → List Function → Code
translate_from₁ numbers base [] = []
translate_from₁ numbers base (F ∷ Fs) =
    (target₁ F.params (bind_zeros (slot_of F.params) F.locals (code₁ numbers base F 0 F.entry)) ∷ map (block_target₁ numbers base F) F.blocks)
    ++ translate_from₁ numbers (base + targets F) Fs

unfoldable pub translate₁ : Program → Code
translate₁ P = translate_from₁ (number P) 0 P

-- ── The controller ──────────────────────────────────────────────────────────────────────────────

-- Tag 6 hands no number to the handler body.
abbrev pub handled₁ : List Record → Outcome Control
handled₁ [] = stuck
handled₁ (closure env p e none q ∷ older) = stuck
handled₁ (closure env p e (some b) q ∷ older) = next (control b env older)

abbrev pub handle_with₁ : ℕ → List Record → Outcome Control
handle_with₁ zero rs = end (uncaught (pos 0))
handle_with₁ (suc n) rs = handled₁ (oldest (suc n) rs)

unfoldable pub control_step₁ : Code → ℕ → Control → Outcome Control
control_step₁ Q d (control (let_constant x i e) env rs) = next (control e (bind env x (whole i)) rs)
control_step₁ Q d (control (let_slot x y e) env rs) = given (as_whole (binding_at env y)) (λ v. next (control e (bind env x (whole v)) rs))
control_step₁ Q d (control (let_difference x y z e) env rs) =
    given (as_whole (binding_at env y)) (λ v. given (as_whole (binding_at env z)) (λ w. next (control e (bind env x (whole (minus v w))) rs)))
control_step₁ Q d (control (jump g k h ss) env rs) =
    given (get_elem? Q g) (λ D. given (as_continuation (binding_at env k)) (λ m. given (as_handler (binding_at env h)) (λ n.
    given (wholes_of env ss) (λ zs. next (control D.body (parameters m n zs) rs)))))
control_step₁ Q d (control (resume k y) env rs) =
    given (as_continuation (binding_at env k)) (λ n. given (as_whole (binding_at env y)) (λ v. resume_with n v rs))
control_step₁ Q d (control (handle h y) env rs) = given (as_handler (binding_at env h)) (λ n. handle_with₁ n rs)
control_step₁ Q d (control (if_at_most y z e₁ e₂) env rs) =
    given (as_whole (binding_at env y)) (λ v. given (as_whole (binding_at env z)) (λ w. next (control (cond (at_most v w) e₁ e₂) env rs)))
control_step₁ Q d (control (let_continuation x p e k) env rs) =
    within d (length rs) (next (control e (bind env x (continuation (suc (length rs)))) (closure env p k none none ∷ rs)))
control_step₁ Q d (control (let_continuation_with_handler x p t q e h k) env rs) =
    within d (length rs)
    (next (control e (bind (bind env x (continuation (suc (length rs)))) t (handler (suc (length rs)))) (closure env p k (some h) none ∷ rs)))
control_step₁ Q d (control (let_difference_or_raise x y z r e) env rs) =
    given (as_whole (binding_at env y)) (λ v. given (as_whole (binding_at env z)) (λ w.
    next (cond (in_range (v -ℤ w)) (control e (bind env x (whole (v -ℤ w))) rs) (control r env rs))))

unfoldable pub controller₁ : Code → ℕ → List ℤ → ℕ → ℕ → Result Control
controller₁ Q g args d budget = run (control_step₁ Q d) budget (started Q g args)

-- ── What is claimed ─────────────────────────────────────────────────────────────────────────────

-- A run, as a function of its budget, that ends uncaught reports 0.
abbrev pub ReportsZero : {S : Type 0} → (ℕ → Result S) → Type 0
ReportsZero R = (n : ℕ) (z : ℤ) → (R n).stop ≡ ended (uncaught z) → z ≡ pos 0

-- A program of version 1 translates, runs and has extras as before; code of version 1 runs as before.
pub record VersionOne : Type 0 where
  pub translates : (P : Program) → ProgramOne P → translate P ≡ translate₁ P
  pub bench : (P : Program) → ProgramOne P → (f : FunctionNumber) (args : List ℤ) (d : ℕ)
      → ((n : ℕ) → (bench P f args d n ≡ bench₁ P f args d n) × (extras P f args d n ≡ extras₁ P f args d n)) × ReportsZero (bench P f args d)
  pub controller : (Q : Code) → CodeOne Q → (g : ℕ) (args : List ℤ) (d : ℕ)
      → ((n : ℕ) → controller Q g args d n ≡ controller₁ Q g args d n) × ReportsZero (controller Q g args d)
