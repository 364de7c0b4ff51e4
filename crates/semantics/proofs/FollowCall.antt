-- Theorems 1 and 2 for a call; then for every operation.
use Prim.Native.Nat.{ℕ, zero, suc, ◌+◌, ◌<◌, ◌≤◌}
use Rattle.std.proofs.Common.{arith, sym, ◌∙◌, append-nil, leb-false}
use Rattle.std.specs.Prelude.{◌≡◌, Bool, true, false, List, [], ◌∷◌, ◌++◌, map, leb, ℤ, pos}
use Rattle.std.proofs.Math.Path.{refl, ap, subst}
use Rattle.std.proofs.Math.Bool.{cond}
use Rattle.std.proofs.Math.Option.{none}
use Rattle.std.proofs.Math.ListN.{length, get_elem?, replicate, length-append, length-replicate}
use Rattle.std.proofs.lemmas.List.{length-map}
use Rattle.std.proofs.Math.Seq.{append_snoc}
use Rattle.semantics.specs.Program.{FunctionNumber, Variable, Handler, Block, constant, copy, difference, call, goto, return, branch, raise, Function, Program, variables, no_function, function_of}
use Rattle.semantics.specs.Run.{Outcome, next, too_deep}
use Rattle.semantics.specs.Bench.{Frame, frame, State, state, waiting, given, values_of, begun, within, step}
use Rattle.semantics.specs.WellFormed.{All, WellFormed, WellFormedPlace, WellFormedFrame, WellFormedState}
use Rattle.semantics.specs.Code.{Slot, Expr, jump, Target}
use Rattle.semantics.specs.Controller.{unbound, whole, continuation, handler, Environment, binding_at, put, bind, as_continuation, as_handler, wholes_of, Record, closure, control, parameters, control_step}
use Rattle.semantics.specs.Translation.{slot_of, code, bind_zeros, entry_target, number}
use Rattle.semantics.specs.Extras.{value_of}
use Rattle.semantics.specs.Matching.{newest_guarded, body_left, handler_body, handler_parameter}
use Rattle.semantics.proofs.ListLaws.{at_get_d, put_same, put_other, put_end, map_append_one}
use Rattle.semantics.proofs.TranslationLaws.{entry_at}
use Rattle.semantics.proofs.MatchingLaws.{slots_of, records_of, matching, length_records, matching_matches}
use Rattle.semantics.proofs.SlotLaws.{given_some, held_variable, values_are, wholes_are}
use Rattle.semantics.proofs.Follow.{ControlGoes, Followed, Follows, by_equal_outcome, onward, below, function_well_formed, follow_constant, follow_copy, follow_difference, follow_goto, follow_branch, follow_return, follow_raise}

-- ── A function's locals ─────────────────────────────────────────────────────────────────────────

bind_end : (m n : ℕ) (vs : List ℤ) (z : ℤ) → bind (parameters m n vs) (slot_of (length vs)) (whole z) ≡ parameters m n (vs ++ (z ∷ []))
bind_end m n vs z =
    ap (λ (l : Environment). continuation m ∷ handler n ∷ l)
    (ap (λ (i : ℕ). put unbound (map whole vs) i (whole z)) (sym (length-map vs whole)) ∙ (put_end unbound (map whole vs) (whole z) ∙ map_append_one whole vs z))

one_longer : (vs : List ℤ) (z : ℤ) → length (vs ++ (z ∷ [])) ≡ suc (length vs)
one_longer vs z = let e : length (vs ++ (z ∷ [])) ≡ length vs + 1 = length-append vs (z ∷ []) in omega arith

-- Each local is bound to 0, in order: one step each.
zeros : (P : Program) (d : ℕ) (k : ℕ) (e : Expr) (m n : ℕ) (vs : List ℤ) (rs : List Record)
    → ControlGoes P d k (control (bind_zeros (slot_of (length vs)) k e) (parameters m n vs) rs) (control e (parameters m n (vs ++ replicate k (pos 0))) rs)
unfolding control_step
zeros P d zero e m n vs rs = ap (λ (l : List ℤ). control e (parameters m n l) rs) (sym (append-nil vs))
zeros P d (suc k) e m n vs rs = (
  control (bind_zeros (slot_of (length (vs ++ (pos 0 ∷ [])))) k e) (parameters m n (vs ++ (pos 0 ∷ []))) rs,
  ap (λ (env : Environment). next (control (bind_zeros (slot_of (suc (length vs))) k e) env rs)) (bind_end m n vs (pos 0))
      ∙ ap (λ (i : ℕ). next (control (bind_zeros (slot_of i) k e) (parameters m n (vs ++ (pos 0 ∷ []))) rs)) (sym (one_longer vs (pos 0))),
  subst (λ (l : List ℤ). ControlGoes P d k (control (bind_zeros (slot_of (length (vs ++ (pos 0 ∷ [])))) k e) (parameters m n (vs ++ (pos 0 ∷ []))) rs) (control e (parameters m n l) rs))
      (append_snoc vs (pos 0) (replicate k (pos 0))) (zeros P d k e m n (vs ++ (pos 0 ∷ [])) rs),
)

-- From the entry of function g with its arguments to its first operation.
pub begins : (P : Program) (d g : ℕ) (m n : ℕ) (args : List ℤ) (rs : List Record) → length args ≡ (function_of P g).params
    → ControlGoes P d (function_of P g).locals (control (entry_target (number P) (number P g) (function_of P g)).body (parameters m n args) rs)
    (control (body_left P g 0 (function_of P g).entry) (parameters m n (args ++ replicate (function_of P g).locals (pos 0))) rs)
begins P d g m n args rs q =
    subst (λ (p : ℕ). ControlGoes P d (function_of P g).locals (control (bind_zeros (slot_of p) (function_of P g).locals (body_left P g 0 (function_of P g).entry)) (parameters m n args) rs) (control (body_left P g 0 (function_of P g).entry) (parameters m n (args ++ replicate (function_of P g).locals (pos 0))) rs)) q
    (zeros P d (function_of P g).locals (body_left P g 0 (function_of P g).entry) m n args rs)

-- ── The jump to a function, once the record is made ─────────────────────────────────────────────

jumps_to : (P : Program) (d g : ℕ) (k h : Slot) (ys : List Variable) (vs : List ℤ) (env : Environment) (rs : List Record) (m n : ℕ) → g < length P → binding_at env k ≡ continuation m → binding_at env h ≡ handler n
    → ((y : ℕ) → y < length vs → binding_at env (slot_of y) ≡ whole (value_of vs y)) → All (λ y. y < length vs) ys → length ys ≡ (function_of P g).params
    → ControlGoes P d (suc (function_of P g).locals) (control (jump (number P g) k h (map slot_of ys)) env rs)
    (control (body_left P g 0 (function_of P g).entry) (parameters m n (map (value_of vs) ys ++ replicate (function_of P g).locals (pos 0))) rs)
unfolding control_step
jumps_to P d g k h ys vs env rs m n lg ek eh ev ws q = (
  control (entry_target (number P) (number P g) (function_of P g)).body (parameters m n (map (value_of vs) ys)) rs,
  given_some (λ (D : Target). given (as_continuation (binding_at env k)) (λ (i : ℕ). given (as_handler (binding_at env h)) (λ (j : ℕ). given (wholes_of env (map slot_of ys)) (λ (zs : List ℤ). next (control D.body (parameters i j zs) rs))))) (entry_at P g lg)
      ∙ (given_some (λ (i : ℕ). given (as_handler (binding_at env h)) (λ (j : ℕ). given (wholes_of env (map slot_of ys)) (λ (zs : List ℤ). next (control (entry_target (number P) (number P g) (function_of P g)).body (parameters i j zs) rs)))) (ap as_continuation ek)
      ∙ (given_some (λ (j : ℕ). given (wholes_of env (map slot_of ys)) (λ (zs : List ℤ). next (control (entry_target (number P) (number P g) (function_of P g)).body (parameters m j zs) rs))) (ap as_handler eh)
      ∙ given_some (λ (zs : List ℤ). next (control (entry_target (number P) (number P g) (function_of P g)).body (parameters m n zs) rs)) (wholes_are env vs ys ev ws))),
  begins P d g m n (map (value_of vs) ys) rs (length-map ys (value_of vs) ∙ q),
)

full : {S : Type 0} (d n m : ℕ) (o : Outcome S) → n ≡ m → leb d m ≡ true → within d n o ≡ too_deep
full d n m o q e = ap (λ (c : Bool). cond c too_deep o) (ap (λ (k : ℕ). leb d k) q ∙ e)

-- ── A call ──────────────────────────────────────────────────────────────────────────────────────

module _ (P : Program) (W : WellFormed P) (d : ℕ) (f : FunctionNumber) (x : Variable) (g : FunctionNumber) (ys : List Variable) (b : Block) (vs : List ℤ) (fs : List Frame) where
  callee : Handler → State
  callee h = begun g (function_of P g) (map (value_of vs) ys) (frame f h b vs x ∷ fs)

  -- What the controller does with a frame free.
  Calls : Handler → Type 0
  Calls h = ControlGoes P d (suc (suc (function_of P g).locals)) (matching P (state f h (call x g ys b) vs fs)) (matching P (callee h))

  counts : leb d (length fs) ≡ false → leb d (length (records_of P fs)) ≡ false
  counts e = ap (λ (n : ℕ). leb d n) (length_records P fs) ∙ e

  -- What the slots hold once the record is made: the new continuation in slot V+2, and the variables as before.
  module _ (q : length vs ≡ variables (function_of P f)) (k : ℕ) where
    made_slots : Environment
    made_slots = bind (slots_of vs fs) (slot_of (variables (function_of P f))) (continuation k)

    made_continuation : binding_at made_slots (slot_of (variables (function_of P f))) ≡ continuation k
    unfolding made_slots
    made_continuation = put_same unbound (map whole vs) (variables (function_of P f)) (continuation k)

    made_variable : (y : ℕ) → y < length vs → binding_at made_slots (slot_of y) ≡ whole (value_of vs y)
    unfolding made_slots
    made_variable y l =
        put_other unbound (map whole vs) (variables (function_of P f)) y (continuation k) (λ (e : variables (function_of P f) ≡ y). absurd (omega arith))
        ∙ held_variable (length fs) (newest_guarded fs) vs y l

    -- .. and with tag 9 the new handler in slot V+3.
    guarded_slots : Environment
    guarded_slots = bind made_slots (slot_of (suc (variables (function_of P f)))) (handler k)

    guarded_continuation : binding_at guarded_slots (slot_of (variables (function_of P f))) ≡ continuation k
    unfolding guarded_slots
    guarded_continuation =
        put_other unbound made_slots (slot_of (suc (variables (function_of P f)))) (slot_of (variables (function_of P f))) (handler k) (λ (e : slot_of (suc (variables (function_of P f))) ≡ slot_of (variables (function_of P f))). absurd (omega arith))
        ∙ made_continuation

    guarded_handler : binding_at guarded_slots (slot_of (suc (variables (function_of P f)))) ≡ handler k
    unfolding guarded_slots
    guarded_handler = put_same unbound made_slots (slot_of (suc (variables (function_of P f)))) (handler k)

    guarded_variable : (y : ℕ) → y < length vs → binding_at guarded_slots (slot_of y) ≡ whole (value_of vs y)
    unfolding guarded_slots
    guarded_variable y l =
        put_other unbound made_slots (slot_of (suc (variables (function_of P f)))) (slot_of y) (handler k) (λ (e : slot_of (suc (variables (function_of P f))) ≡ slot_of y). absurd (omega arith))
        ∙ made_variable y l

  calls : (h : Handler) → WellFormedPlace P f h (call x g ys b) vs → All (λ y. y < length vs) ys → leb d (length fs) ≡ false → Calls h
  unfolding code control_step callee Calls made_slots guarded_slots
  calls zero w ws e = (
    control (jump (number P g) (slot_of (variables (function_of P f))) 1 (map slot_of ys)) (made_slots w.variables (suc (length (records_of P fs)))) (closure (slots_of vs fs) (slot_of x) (body_left P f 0 b) none none ∷ records_of P fs),
    ap (λ (c : Bool). cond c too_deep (next (control (jump (number P g) (slot_of (variables (function_of P f))) 1 (map slot_of ys)) (made_slots w.variables (suc (length (records_of P fs)))) (closure (slots_of vs fs) (slot_of x) (body_left P f 0 b) none none ∷ records_of P fs)))) (counts e),
    subst (λ (k : ℕ). ControlGoes P d (suc (function_of P g).locals) (control (jump (number P g) (slot_of (variables (function_of P f))) 1 (map slot_of ys)) (made_slots w.variables (suc (length (records_of P fs)))) (closure (slots_of vs fs) (slot_of x) (body_left P f 0 b) none none ∷ records_of P fs))
        (control (body_left P g 0 (function_of P g).entry) (parameters k (newest_guarded fs) (map (value_of vs) ys ++ replicate (function_of P g).locals (pos 0))) (closure (slots_of vs fs) (slot_of x) (body_left P f 0 b) none none ∷ records_of P fs)))
        (ap suc (length_records P fs))
        (jumps_to P d g (slot_of (variables (function_of P f))) 1 ys vs (made_slots w.variables (suc (length (records_of P fs)))) (closure (slots_of vs fs) (slot_of x) (body_left P f 0 b) none none ∷ records_of P fs) (suc (length (records_of P fs))) (newest_guarded fs)
        w.block.1 (made_continuation w.variables (suc (length (records_of P fs)))) refl (made_variable w.variables (suc (length (records_of P fs)))) ws w.block.2),
  )
  calls (suc l) w ws e = (
    control (jump (number P g) (slot_of (variables (function_of P f))) (slot_of (suc (variables (function_of P f)))) (map slot_of ys)) (guarded_slots w.variables (suc (length (records_of P fs)))) (closure (slots_of vs fs) (slot_of x) (body_left P f (suc l) b) (handler_body P f (suc l)) (handler_parameter P f (suc l)) ∷ records_of P fs),
    ap (λ (c : Bool). cond c too_deep (next (control (jump (number P g) (slot_of (variables (function_of P f))) (slot_of (suc (variables (function_of P f)))) (map slot_of ys)) (guarded_slots w.variables (suc (length (records_of P fs)))) (closure (slots_of vs fs) (slot_of x) (body_left P f (suc l) b) (handler_body P f (suc l)) (handler_parameter P f (suc l)) ∷ records_of P fs)))) (counts e),
    subst (λ (k : ℕ). ControlGoes P d (suc (function_of P g).locals) (control (jump (number P g) (slot_of (variables (function_of P f))) (slot_of (suc (variables (function_of P f)))) (map slot_of ys)) (guarded_slots w.variables (suc (length (records_of P fs))))
        (closure (slots_of vs fs) (slot_of x) (body_left P f (suc l) b) (handler_body P f (suc l)) (handler_parameter P f (suc l)) ∷ records_of P fs))
        (control (body_left P g 0 (function_of P g).entry) (parameters k k (map (value_of vs) ys ++ replicate (function_of P g).locals (pos 0))) (closure (slots_of vs fs) (slot_of x) (body_left P f (suc l) b) (handler_body P f (suc l)) (handler_parameter P f (suc l)) ∷ records_of P fs)))
        (ap suc (length_records P fs))
        (jumps_to P d g (slot_of (variables (function_of P f))) (slot_of (suc (variables (function_of P f)))) ys vs (guarded_slots w.variables (suc (length (records_of P fs)))) (closure (slots_of vs fs) (slot_of x) (body_left P f (suc l) b) (handler_body P f (suc l)) (handler_parameter P f (suc l)) ∷ records_of P fs) (suc (length (records_of P fs))) (suc (length (records_of P fs)))
        w.block.1 (guarded_continuation w.variables (suc (length (records_of P fs)))) (guarded_handler w.variables (suc (length (records_of P fs)))) (guarded_variable w.variables (suc (length (records_of P fs)))) ws w.block.2),
  )

  -- With all frames waiting, the controller stops at the tag that the call became.
  stops : (h : Handler) → leb d (length fs) ≡ true → Follows P d (state f h (call x g ys b) vs fs) too_deep
  unfolding code control_step
  stops zero e = (full d (length (records_of P fs)) (length fs) _ (length_records P fs) e, (matching_matches P (state f 0 (call x g ys b) vs fs), tt, tt))
  stops (suc l) e = (full d (length (records_of P fs)) (length fs) _ (length_records P fs) e, (matching_matches P (state f (suc l) (call x g ys b) vs fs), tt, tt))

  callee_well_formed : (h : Handler) → WellFormedPlace P f h (call x g ys b) vs → All (WellFormedFrame P) fs → WellFormedState P (callee h)
  unfolding callee
  callee_well_formed h w ws = (
    record {
      function = w.block.1;
      handler = omega arith;
      block = (function_well_formed P W g w.block.1).entry;
      variables = length-append (map (value_of vs) ys) (replicate (function_of P g).locals (pos 0)) ∙ sizes;
    },
    ((onward P f h (call x g ys b) b vs vs w w.block.4 refl, below P d f h vs fs (call x g ys b) x w w.block.0), ws),
  )
    where
      sizes : length (map (value_of vs) ys) + length (replicate (function_of P g).locals (pos 0)) ≡ variables (function_of P g)
      sizes = rw (length-map ys (value_of vs), length-replicate (function_of P g).locals (pos 0), w.block.2)

  follow_call : (h : Handler) → WellFormedPlace P f h (call x g ys b) vs → All (WellFormedFrame P) fs → Follows P d (state f h (call x g ys b) vs fs) (step P d (state f h (call x g ys b) vs fs))
  unfolding step callee Calls
  follow_call h w ws = by (leb d (length fs)) refl
    where
      ly : All (λ y. y < length vs) ys
      ly = subst (λ (n : ℕ). All (λ y. y < n) ys) (sym w.variables) w.block.3

      free : Outcome State
      free = given (get_elem? P g) (λ (G : Function). given (values_of vs ys) (λ (args : List ℤ). next (begun g G args (frame f h b vs x ∷ fs))))

      moves : free ≡ next (callee h)
      moves =
          given_some (λ (G : Function). given (values_of vs ys) (λ (args : List ℤ). next (begun g G args (frame f h b vs x ∷ fs)))) (at_get_d P g no_function w.block.1)
          ∙ given_some (λ (args : List ℤ). next (begun g (function_of P g) args (frame f h b vs x ∷ fs))) (values_are vs ys ly)

      by : (c : Bool) → leb d (length fs) ≡ c → Follows P d (state f h (call x g ys b) vs fs) (cond (leb d (length fs)) too_deep free)
      by true e = by_equal_outcome P d (state f h (call x g ys b) vs fs) (ap (λ (c : Bool). cond c too_deep free) e) (stops h e)
      by false e =
          by_equal_outcome P d (state f h (call x g ys b) vs fs) (ap (λ (c : Bool). cond c too_deep free) e ∙ moves)
          (record {
            goes = calls h w ly e;
            well_formed = callee_well_formed h w ws;
            limit = λ n. leb-false d (length fs) e;
          })

-- Every operation.
pub follow : (P : Program) → WellFormed P → (d : ℕ) (S : State) → WellFormedState P S → Follows P d S (step P d S)
follow P W d (state f h (constant x i b) vs fs) w = follow_constant P d f h vs fs x i b w.0 w.1
follow P W d (state f h (copy x y b) vs fs) w = follow_copy P d f h vs fs x y b w.0 w.1
follow P W d (state f h (difference x y z b) vs fs) w = follow_difference P W d f h vs fs x y z b w.0 w.1
follow P W d (state f h (call x g ys b) vs fs) w = follow_call P W d f x g ys b vs fs h w.0 w.1
follow P W d (state f h (goto l) vs fs) w = follow_goto P W d f vs fs h l w.0 w.1
follow P W d (state f h (return x) vs fs) w = follow_return P d f h x vs fs w.0 w.1
follow P W d (state f h (branch y z l m) vs fs) w = follow_branch P W d f vs fs h y z l m w.0 w.1
follow P W d (state f h (raise r) vs fs) w = follow_raise P W d f vs fs h r w.0 w.1

-- Theorem 1 for one step, as the machines cite it.
pub step_well_formed : (P : Program) → WellFormed P → (d : ℕ) (S S' : State) → WellFormedState P S → step P d S ≡ next S'
    → WellFormedState P S' × (waiting S ≤ d → waiting S' ≤ d)
step_well_formed P W d S S' w e =
    let F : Followed P d S S' = subst (λ (o : Outcome State). Follows P d S o) e (follow P W d S w) in (F.well_formed, F.limit)
