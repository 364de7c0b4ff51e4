-- The translation of a well-formed program keeps the slot rules.
use Prim.Native.Nat.{ℕ, zero, suc, ◌+◌, ◌≤◌, ◌<◌}
use native.Mathlib.Omega.{arith}
use Rattle.std.proofs.Common.{zero-add, add-zero, add_assoc, not-suc-le-zero, le_of_suc-le-suc, sym, ◌∙◌}
use Rattle.std.specs.Prelude.{◌≡◌, Bool, true, false, cond, replicate}
use Rattle.std.proofs.Math.Path.{refl, ap, subst}
use mathlib.Core.List.{List, [], ◌∷◌, map}
use Rattle.std.proofs.Math.Option.{Option, none, some}
use Rattle.std.proofs.Math.ListN.{length, get_elem?, get_or, get_or-replicate}
use Rattle.std.proofs.lemmas.List.{length-map}
use Rattle.semantics.specs.Program.{FunctionNumber, Variable, Label, Handler, Block, constant, copy, difference, call, goto, return, branch, raise, Labelled, Function, Program, variables, no_labelled, no_function, function_of}
use Rattle.semantics.specs.WellFormed.{All, IsLabel, MayName, WellFormedBlock, WellFormedLabelled, WellFormedFunction, WellFormed}
use Rattle.semantics.specs.Code.{Slot, Expr, jump, handle, Target}
use Rattle.semantics.specs.Controller.{put, no_target}
use Rattle.semantics.specs.SlotRules.{Kind, unbound_kind, whole_kind, continuation_kind, handler_kind, Kinds, kind_at, bind_kind, IsBound, MayBind, bind_number_kind, KeepsRules, entry_kinds, KeepsSlotRules}
use Rattle.semantics.specs.Translation.{slot_of, slots_from, to_label, uses_spare, spare_slot, last_slot, receiver_at, receiver_slot, parameter_slot, bind_raised, raise_code, code, bind_zeros, entry_target, block_target, targets, number, translate_function, translate_from, translate}
use Rattle.semantics.specs.Statement.{TranslationKeepsRules}
use Rattle.semantics.proofs.ListLaws.{at_get_d, at_below, get_d_at, all_get_d, all_append, all_mapped, put_same, put_other}
use Rattle.semantics.proofs.TranslationLaws.{entry_at, block_at}
use Rattle.semantics.proofs.Follow.{receiver_well_formed}

-- ── Kinds of variables ──────────────────────────────────────────────────────────────────────────

put_among : (v x : ℕ) → x < v → put unbound_kind (replicate v whole_kind) x whole_kind ≡ replicate v whole_kind
put_among zero x h = absurd (not-suc-le-zero h)
put_among (suc v) zero h = refl
put_among (suc v) (suc x) h = ap (λ (l : Kinds). whole_kind ∷ l) (put_among v x (le_of_suc-le-suc h))

put_after : (v : ℕ) → put unbound_kind (replicate v whole_kind) v whole_kind ≡ replicate (suc v) whole_kind
put_after zero = refl
put_after (suc v) = ap (λ (l : Kinds). whole_kind ∷ l) (put_after v)

bind_among : (v x : ℕ) → x < v → bind_kind (entry_kinds v) (slot_of x) whole_kind ≡ entry_kinds v
bind_among v x h = ap (λ (l : Kinds). continuation_kind ∷ handler_kind ∷ l) (put_among v x h)

module _ (m v : ℕ) (fits : slot_of (suc v) < m) where
  variable_bound_lem : (y : ℕ) → y < v → IsBound m (entry_kinds v) whole_kind (slot_of y)
  variable_bound_lem y h = (omega arith, get_or-replicate v y whole_kind unbound_kind h)

  -- The slots of variables are bound too where further slots are.
  IsWider : Kinds → Type 0
  IsWider ks = (y : ℕ) → y < v → kind_at ks (slot_of y) ≡ whole_kind

  arguments_bound : (ks : Kinds) → IsWider ks → (ys : List Variable) → All (λ y. y < v) ys → All (IsBound m ks whole_kind) (map slot_of ys)
  unfolding IsWider
  arguments_bound ks w [] a = tt
  arguments_bound ks w (y ∷ ys) a = ((let h : y < v = a.0 in omega arith, w y a.0), arguments_bound ks w ys a.1)

  variables_bound : (ks : Kinds) → IsWider ks → (i n : ℕ) → i + n ≡ v → All (IsBound m ks whole_kind) (slots_from (slot_of i) n)
  unfolding IsWider
  variables_bound ks w i zero e = tt
  variables_bound ks w i (suc n) e = ((omega arith, w i (omega arith)), variables_bound ks w (suc i) n (omega arith))

  own_wider : IsWider (entry_kinds v)
  unfolding IsWider
  own_wider y h = get_or-replicate v y whole_kind unbound_kind h

  -- A slot behind those of the variables is bound too.
  past_wider : (s : ℕ) (k : Kind) → v ≤ s → IsWider (bind_kind (entry_kinds v) (slot_of s) k)
  unfolding IsWider
  past_wider s k l y h = put_other unbound_kind (replicate v whole_kind) s y k (λ (e : s ≡ y). absurd (omega arith)) ∙ own_wider y h

  count : (s n : ℕ) → length (slots_from s n) ≡ n
  count s zero = refl
  count s (suc n) = ap suc (count (suc s) n)

  -- The environment of a call, with the new continuation, and with the new handler too.
  called : Kinds
  called = bind_kind (entry_kinds v) (slot_of v) continuation_kind

  called_wider : IsWider called
  unfolding called
  called_wider = past_wider v continuation_kind (omega arith)

  called_continuation : kind_at called (slot_of v) ≡ continuation_kind
  unfolding called
  called_continuation = put_same unbound_kind (replicate v whole_kind) v continuation_kind

  guarded : Kinds
  guarded = bind_kind called (slot_of (suc v)) handler_kind

  guarded_wider : IsWider guarded
  unfolding IsWider guarded
  guarded_wider y h = put_other unbound_kind called (slot_of (suc v)) (slot_of y) handler_kind (λ (e : slot_of (suc v) ≡ slot_of y). absurd (omega arith)) ∙ called_wider y h

  guarded_continuation : kind_at guarded (slot_of v) ≡ continuation_kind
  unfolding guarded
  guarded_continuation = put_other unbound_kind called (slot_of (suc v)) (slot_of v) handler_kind (λ (e : slot_of (suc v) ≡ slot_of v). absurd (omega arith)) ∙ called_continuation

  guarded_handler : kind_at guarded (slot_of (suc v)) ≡ handler_kind
  unfolding guarded
  guarded_handler = put_same unbound_kind called (slot_of (suc v)) handler_kind

-- ── Jumps ───────────────────────────────────────────────────────────────────────────────────────

module _ (m : ℕ) (P : Program) (W : WellFormed P) (small : All (λ F. last_slot F < m) P) where
  -- To the entry of function g.
  entry_rules : (g : FunctionNumber) (ks : Kinds) (k h : Slot) (ss : List Slot) → g < length P → IsBound m ks continuation_kind k → IsBound m ks handler_kind h → length ss ≡ (function_of P g).params → All (IsBound m ks whole_kind) ss
      → KeepsRules (translate P) m ks (jump (number P g) k h ss)
  entry_rules g ks k h ss lg bk bh q a = (
    at_below (translate P) (number P g) (entry_target (number P) (number P g) (function_of P g)) (entry_at P g lg),
    bk,
    bh,
    q ∙ ap (λ (D : Target). D.params) (sym (get_d_at (translate P) (number P g) (entry_target (number P) (number P g) (function_of P g)) no_target (entry_at P g lg))),
    a,
  )

  module _ (f : FunctionNumber) (lf : f < length P) where
    F : Function
    F = function_of P f

    last_room : last_slot F < m
    unfolding F
    last_room = all_get_d (λ (G : Function). last_slot G < m) P f no_function small lf

    room : slot_of (suc (variables F)) < m
    room = by (uses_spare F) last_room
      where
        by : (c : Bool) → cond c (slot_of (suc (suc (variables F)))) (slot_of (suc (variables F))) < m → slot_of (suc (variables F)) < m
        by true h = omega arith
        by false h = h

    one_below : 1 < m
    one_below = let r : slot_of (suc (variables F)) < m = room in omega arith

    -- Where the continuation, the handler and the variables are bound, and perhaps further slots.
    record Bound (ks : Kinds) : Type 0 where
      continuation : kind_at ks 0 ≡ continuation_kind
      handler : kind_at ks 1 ≡ handler_kind
      variables : IsWider m (variables F) room ks

    own_bound_lem : Bound (entry_kinds (variables F))
    own_bound_lem = record { continuation = refl; handler = refl; variables = own_wider m (variables F) room }

    label_rules_in : (ks : Kinds) → Bound ks → (l : Label) → IsLabel (length F.blocks) l → KeepsRules (translate P) m ks (to_label (number P f) (variables F) l)
    unfolding F
    label_rules_in ks b zero k = absurd (omega arith)
    label_rules_in ks b (suc l) k =
        let B : Labelled = get_or F.blocks l no_labelled in
        let e : get_elem? (translate P) (number P f + suc l) ≡ some (block_target (number P) (number P f) F B) = block_at P f l B lf (at_get_d F.blocks l no_labelled k.1) in
        let one : 1 < m = one_below in (
          at_below (translate P) (number P f + suc l) (block_target (number P) (number P f) F B) e,
          (omega arith, b.continuation),
          (one, b.handler),
          count m (variables F) room (slot_of 0) (variables F) ∙ ap (λ (D : Target). D.params) (sym (get_d_at (translate P) (number P f + suc l) (block_target (number P) (number P f) F B) no_target e)),
          variables_bound m (variables F) room ks b.variables 0 (variables F) (zero-add (variables F)),
        )

    label_rules : (l : Label) → IsLabel (length F.blocks) l → KeepsRules (translate P) m (entry_kinds (variables F)) (to_label (number P f) (variables F) l)
    label_rules = label_rules_in (entry_kinds (variables F)) own_bound_lem

    -- A variable is bound anew.
    among : (x : Variable) (e : Expr) → x < variables F → KeepsRules (translate P) m (entry_kinds (variables F)) e → KeepsRules (translate P) m (bind_kind (entry_kinds (variables F)) (slot_of x) whole_kind) e
    among x e lx k = subst (λ (ks : Kinds). KeepsRules (translate P) m ks e) (sym (bind_among (variables F) x lx)) k

    receiver_named : (l : Label) → IsLabel (length F.blocks) l → MayName (variables F) (receiver_at F l)
    unfolding F
    receiver_named l k = receiver_well_formed P W f l lf k

    -- What a raise binds to the receiver, and the jump.
    received_rules : (q r : Option Variable) (e : Expr) → MayName (variables F) q → MayName (variables F) r → KeepsRules (translate P) m (entry_kinds (variables F)) e
        → KeepsRules (translate P) m (entry_kinds (variables F)) (bind_raised (receiver_slot q) r e)
    received_rules none r e wq wr k = k
    received_rules (some x) none e wq wr k = let h : slot_of (suc (variables F)) < m = room in (omega arith, among x e wq k)
    received_rules (some x) (some y) e wq wr k = let h : slot_of (suc (variables F)) < m = room in (omega arith, variable_bound_lem m (variables F) room y wr, among x e wq k)

    -- A 0 that leaves the function.
    leave_rules : KeepsRules (translate P) m (entry_kinds (variables F)) (bind_raised (spare_slot F) none (handle 1 (spare_slot F)))
    leave_rules = by (uses_spare F) last_room
      where
        by : (c : Bool) → cond c (slot_of (suc (suc (variables F)))) (slot_of (suc (variables F))) < m
            → let s : Option Slot = cond c (some (slot_of (suc (suc (variables F))))) none in KeepsRules (translate P) m (entry_kinds (variables F)) (bind_raised s none (handle 1 s))
        by true h = (h, ((one_below, refl), (h, put_same unbound_kind (replicate (variables F) whole_kind) (suc (suc (variables F))) whole_kind)))
        by false h = ((one_below, refl), tt)

    raise_rules : (h : Handler) → h ≤ length F.blocks → (r : Option Variable) → MayName (variables F) r → KeepsRules (translate P) m (entry_kinds (variables F)) (raise_code (number P f) F h r)
    raise_rules zero lh none wr = leave_rules
    raise_rules zero lh (some y) wr = ((one_below, refl), variable_bound_lem m (variables F) room y wr)
    raise_rules (suc l) lh r wr =
        let k : IsLabel (length F.blocks) (suc l) = (omega arith, lh) in
        received_rules (receiver_at F (suc l)) r (to_label (number P f) (variables F) (suc l)) (receiver_named (suc l) k) wr (label_rules (suc l) k)

    -- The handler body of tag 9, which sees its parameter.
    handler_rules : (q : Option Variable) → MayName (variables F) q → (l : Label) → IsLabel (length F.blocks) l
        → MayBind m (parameter_slot F q) × KeepsRules (translate P) m (bind_number_kind (entry_kinds (variables F)) (parameter_slot F q)) (to_label (number P f) (variables F) l)
    handler_rules none wq l k = by (uses_spare F) last_room
      where
        by : (c : Bool) → cond c (slot_of (suc (suc (variables F)))) (slot_of (suc (variables F))) < m
            → let s : Option Slot = cond c (some (slot_of (suc (suc (variables F))))) none in
            MayBind m s × KeepsRules (translate P) m (bind_number_kind (entry_kinds (variables F)) s) (to_label (number P f) (variables F) l)
        by true h = (
          h,
          label_rules_in (bind_kind (entry_kinds (variables F)) (slot_of (suc (suc (variables F)))) whole_kind)
              (record { continuation = refl; handler = refl; variables = past_wider m (variables F) room (suc (suc (variables F))) whole_kind (omega arith) }) l k,
        )
        by false h = (tt, label_rules l k)
    handler_rules (some x) wq l k =
        let h : slot_of (suc (variables F)) < m = room in (omega arith, among x (to_label (number P f) (variables F) l) wq (label_rules l k))

    -- A block under a handler.
    code_rules : (h : Handler) → h ≤ length F.blocks → (b : Block) → WellFormedBlock P (variables F) (length F.blocks) b → KeepsRules (translate P) m (entry_kinds (variables F)) (code (number P) (number P f) F h b)
    unfolding code F called guarded
    code_rules h lh (constant x i b) w =
        let r : slot_of (suc (variables F)) < m = room in
        let lx : x < variables F = w.0 in
        (omega arith, subst (λ (ks : Kinds). KeepsRules (translate P) m ks (code (number P) (number P f) F h b)) (sym (bind_among (variables F) x w.0)) (code_rules h lh b w.1))
    code_rules h lh (copy x y b) w =
        let r : slot_of (suc (variables F)) < m = room in
        let lx : x < variables F = w.0 in (
          omega arith,
          variable_bound_lem m (variables F) room y w.1,
          subst (λ (ks : Kinds). KeepsRules (translate P) m ks (code (number P) (number P f) F h b)) (sym (bind_among (variables F) x w.0)) (code_rules h lh b w.2),
        )
    code_rules h lh (difference x y z b) w =
        let r : slot_of (suc (variables F)) < m = room in
        let lx : x < variables F = w.0 in (
          omega arith,
          variable_bound_lem m (variables F) room y w.1,
          variable_bound_lem m (variables F) room z w.2,
          raise_rules h lh none tt,
          subst (λ (ks : Kinds). KeepsRules (translate P) m ks (code (number P) (number P f) F h b)) (sym (bind_among (variables F) x w.0)) (code_rules h lh b w.3),
        )
    code_rules zero lh (call x g ys b) w =
        let r : slot_of (suc (variables F)) < m = room in
        let lx : x < variables F = w.0 in
        let one : 1 < m = one_below in (
          omega arith,
          omega arith,
          entry_rules g (called m (variables F) room) (slot_of (variables F)) 1 (map slot_of ys) w.1 (omega arith, called_continuation m (variables F) room) (one, refl) (length-map ys slot_of ∙ w.2) (arguments_bound m (variables F) room (called m (variables F) room) (called_wider m (variables F) room) ys w.3),
          subst (λ (ks : Kinds). KeepsRules (translate P) m ks (code (number P) (number P f) F 0 b)) (sym (bind_among (variables F) x w.0)) (code_rules 0 lh b w.4),
        )
    code_rules (suc l) lh (call x g ys b) w =
        let r : slot_of (suc (variables F)) < m = room in
        let lx : x < variables F = w.0 in
        let k : IsLabel (length F.blocks) (suc l) = (omega arith, lh) in
        let q = handler_rules (receiver_at F (suc l)) (receiver_named (suc l) k) (suc l) k in (
          omega arith,
          omega arith,
          r,
          (λ (e : slot_of (variables F) ≡ slot_of (suc (variables F))). absurd (omega arith)),
          q.0,
          entry_rules g (guarded m (variables F) room) (slot_of (variables F)) (slot_of (suc (variables F))) (map slot_of ys) w.1 (omega arith, guarded_continuation m (variables F) room) (r, guarded_handler m (variables F) room) (length-map ys slot_of ∙ w.2) (arguments_bound m (variables F) room (guarded m (variables F) room) (guarded_wider m (variables F) room) ys w.3),
          q.1,
          subst (λ (ks : Kinds). KeepsRules (translate P) m ks (code (number P) (number P f) F (suc l) b)) (sym (bind_among (variables F) x w.0)) (code_rules (suc l) lh b w.4),
        )
    code_rules h lh (goto l) w = label_rules l w
    code_rules h lh (return x) w = let one : 1 < m = one_below in ((omega arith, refl), variable_bound_lem m (variables F) room x w)
    code_rules h lh (branch y z l k) w = (variable_bound_lem m (variables F) room y w.0, variable_bound_lem m (variables F) room z w.1, label_rules l w.2, label_rules k w.3)
    code_rules h lh (raise r) w = raise_rules h lh r w

    -- Each local is bound in its turn.
    zeros_rules : (p n : ℕ) (e : Expr) → p + n ≡ variables F → KeepsRules (translate P) m (entry_kinds (variables F)) e → KeepsRules (translate P) m (entry_kinds p) (bind_zeros (slot_of p) n e)
    zeros_rules p zero e q k = subst (λ (i : ℕ). KeepsRules (translate P) m (entry_kinds i) e) (sym q ∙ add-zero p) k
    zeros_rules p (suc n) e q k =
        let r : slot_of (suc (variables F)) < m = room in (
          omega arith,
          subst (λ (ks : Kinds). KeepsRules (translate P) m ks (bind_zeros (slot_of (suc p)) n e)) (sym (ap (λ (l : Kinds). continuation_kind ∷ handler_kind ∷ l) (put_after p))) (zeros_rules (suc p) n e (omega arith) k),
        )

    function_rules : All (λ D. KeepsRules (translate P) m (entry_kinds D.params) D.body) (translate_function (number P) (number P f) F)
    unfolding F
    function_rules =
        let w : WellFormedFunction P F = all_get_d (WellFormedFunction P) P f no_function W lf in (
          zeros_rules F.params F.locals (code (number P) (number P f) F 0 F.entry) refl (code_rules 0 (omega arith) F.entry w.entry),
          all_mapped (λ (D : Target). KeepsRules (translate P) m (entry_kinds D.params) D.body) (WellFormedLabelled P (variables F) (length F.blocks)) (block_target (number P) (number P f) F) F.blocks
              (λ B b. code_rules B.handler b.handler B.block b.block) w.blocks,
        )

  number_suc : (Fs : Program) (f : FunctionNumber) → f < length Fs → number Fs (suc f) ≡ number Fs f + targets (function_of Fs f)
  number_suc [] f h = absurd (not-suc-le-zero h)
  number_suc (G ∷ Fs) zero h = let e : number Fs 0 ≡ 0 = refl in omega arith
  number_suc (G ∷ Fs) (suc f) h = ap (λ (n : ℕ). targets G + n) (number_suc Fs f (le_of_suc-le-suc h)) ∙ sym (add_assoc (targets G) (number Fs f) (targets (function_of Fs f)))

  -- The functions from f onward.
  rules_from : (Fs : List Function) (f : FunctionNumber) → ((j : ℕ) → j < length Fs → get_elem? P (f + j) ≡ get_elem? Fs j) → All (λ D. KeepsRules (translate P) m (entry_kinds D.params) D.body) (translate_from (number P) (number P f) Fs)
  unfolding F
  rules_from [] f there = tt
  rules_from (G ∷ Fs) f there =
      let e : get_elem? P f ≡ some G = ap (λ (i : ℕ). get_elem? P i) (sym (add-zero f)) ∙ there 0 (omega arith) in
      let lf : f < length P = at_below P f G e in
      let q : function_of P f ≡ G = get_d_at P f G no_function e in
      all_append (λ (D : Target). KeepsRules (translate P) m (entry_kinds D.params) D.body) (translate_function (number P) (number P f) G) (translate_from (number P) (number P f + targets G) Fs)
      (subst (λ (H : Function). All (λ (D : Target). KeepsRules (translate P) m (entry_kinds D.params) D.body) (translate_function (number P) (number P f) H)) q (function_rules f lf))
      (subst (λ (n : ℕ). All (λ (D : Target). KeepsRules (translate P) m (entry_kinds D.params) D.body) (translate_from (number P) n Fs)) (number_suc P f lf ∙ ap (λ (H : Function). number P f + targets H) q)
      (rules_from Fs (suc f) (λ j l. ap (λ (i : ℕ). get_elem? P i) (shifted f j) ∙ there (suc j) (omega arith))))
    where
      shifted : (i j : ℕ) → suc i + j ≡ i + suc j
      shifted i j = omega arith

  pub rules : KeepsSlotRules m (translate P)
  unfolding translate
  rules = rules_from P 0 (λ j l. ap (λ (i : ℕ). get_elem? P i) (zero-add j))

pub translation_keeps_rules : TranslationKeepsRules
translation_keeps_rules m P W small = rules m P W small
