-- Laws of names, as the functions that judge them meet them.
use Rattle.parsing.specs.declared.reason.Reason.{Reason}
use Rattle.parsing.specs.declared.reason.Reason.TheVariants.{CalleeArity, MissingFunction, MissingLabel, MissingVariable}
use Rattle.std.specs.Prelude.{ℕ, suc, ◌+◌, ◌-◌, ◌≤◌, ◌<◌, ◌≡◌, refl, List, [], ◌∷◌, ◌++◌, length, get_or, drop, Err, Ok, Result}
use Rattle.std.proofs.Common.{sym, ap, ap₂, ◌∙◌, subst, arith, le-leb, lt-ltb, le-ltb, eq-eqb, ne_eqb, drop_of_length-le, length-drop, drop-cons, get_or-take, get_or-drop, length-take-le}
use Rattle.std.proofs.lemmas.Bool.{lt-leb}
use Rattle.parsing.specs.declared.Refusal.{Refusal}
use Rattle.parsing.specs.ParserLaws.{impossible}
use Rattle.parsing.specs.Parser.{Verdict, accepted, refused, or_else, verdict_of}
use Rattle.semantics.specs.Program.{Block}
use Rattle.procedure_operations.specs.declared.operation.Operation.{Operation}
use Rattle.procedure_operations.specs.declared.operation.Operation.TheVariants.{Constant, Copy, Difference, Call, Goto, Return, Branch, Raise, RaiseValue, Refused}
use Rattle.procedure_layout.specs.declared.layout.After.{After}
use Rattle.procedure_layout.specs.declared.layout.After.TheVariants.{Onward, Ended, Halted}
use Rattle.procedure_operations.specs.Operation.{operation_at}
use Rattle.procedure_layout.specs.Layout.{arguments_at, as_receiver}
use Rattle.procedure_layout.specs.Rest.{rest_from, rest_at}
use Rattle.procedure_layout.specs.After.{after_of}
use Rattle.procedure_names.specs.Names.{Name, variable, label, handler, receiver, function, arity, arguments, block_names, first_wrong}
use Rattle.procedure_names.specs.OperationNames.{operation_names}
use Rattle.procedure_operations.specs.OperationLaws.{operation_past}
use Rattle.procedure_operations.specs.ViewLaws.{View, is_constant, is_copy, is_difference, is_call, is_goto, is_return, is_branch, is_raise, is_raise_value, is_refused, view}
use Rattle.procedure_layout.proofs.WalkLaws.{rest_law}
use Rattle.procedure_names.specs.NamesLaws.{first_append}

-- One name.
module _ (v place x : ℕ) where
  pub variable_right : x < v → accepted ≡ first_wrong (variable v place x ∷ [])
  variable_right h = rw (lt-ltb x v h)

  pub variable_wrong : v ≤ x → refused MissingVariable place ≡ first_wrong (variable v place x ∷ [])
  variable_wrong h = rw (le-ltb x v h)

  pub label_zero : x ≡ 0 → refused MissingLabel place ≡ first_wrong (label v place x ∷ [])
  label_zero e = rw e

  pub label_right : (x ≡ 0 → ⊥) → x ≤ v → accepted ≡ first_wrong (label v place x ∷ [])
  label_right z h = rw (le-leb 1 x (omega arith), le-leb x v h)

  pub label_wrong : (x ≡ 0 → ⊥) → v < x → refused MissingLabel place ≡ first_wrong (label v place x ∷ [])
  label_wrong z h = rw (le-leb 1 x (omega arith), lt-leb x v h)

  pub handler_right : x ≤ v → accepted ≡ first_wrong (handler v place x ∷ [])
  handler_right h = rw (le-leb x v h)

  pub handler_wrong : v < x → refused MissingLabel place ≡ first_wrong (handler v place x ∷ [])
  handler_wrong h = rw (lt-leb x v h)

-- A receiver, by its byte.
module _ (v place x : ℕ) where
  pub receiver_none : x ≡ 255 → accepted ≡ first_wrong (receiver v place (as_receiver x) ∷ [])
  receiver_none e = rw (eq-eqb x 255 e)

  pub receiver_some : (x ≡ 255 → ⊥) → first_wrong (variable v place x ∷ []) ≡ first_wrong (receiver v place (as_receiver x) ∷ [])
  receiver_some n = rw (ne_eqb x 255 n)

-- A callee and its argument count.
module _ (ps : List ℕ) (f c g n : ℕ) where
  abbrev pub callee_names : List Name
  callee_names = function ps f g ∷ arity ps c g n ∷ []

  pub callee_none : length ps ≤ g → refused MissingFunction f ≡ first_wrong callee_names
  callee_none h = rw (le-ltb g (length ps) h)

  pub callee_right : (k a : ℕ) → (k ≡ g) × (g < length ps) → a ≡ get_or ps k 0 → a ≡ n → accepted ≡ first_wrong callee_names
  callee_right k a h e w =
      let q : get_or ps g 0 ≡ n = ap (λ (i : ℕ). get_or ps i 0) (sym h.0) ∙ sym e ∙ w in
      rw (lt-ltb g (length ps) h.1, eq-eqb n (get_or ps g 0) (sym q))

  pub callee_wrong : (k a : ℕ) → (k ≡ g) × (g < length ps) → a ≡ get_or ps k 0 → (a ≡ n → ⊥) → refused CalleeArity c ≡ first_wrong callee_names
  callee_wrong k a h e w =
      let q : get_or ps g 0 ≡ a = ap (λ (i : ℕ). get_or ps i 0) (sym h.0) ∙ sym e in
      rw (lt-ltb g (length ps) h.1, ne_eqb n (get_or ps g 0) (λ z. w (sym q ∙ sym z)))

-- Names one after the other.
pub join : (a b : List Name) (u v w : Verdict) → w ≡ or_else u v → u ≡ first_wrong a → v ≡ first_wrong b → w ≡ first_wrong (a ++ b)
join a b u v w e p q = e ∙ ap₂ or_else p q ∙ sym (first_append a b)

-- The arguments of a call, from the i-th on.
module _ (s : List ℕ) (v at n : ℕ) (room : at + 4 + n ≤ length s) where
  arguments_length : length (arguments_at s at n) ≡ n
  arguments_length = let l = length-drop (at + 4) s in length-take-le n (drop (at + 4) s) (omega arith)

  pub argument_is : (i : ℕ) → i < n → get_or (arguments_at s at n) i 0 ≡ get_or s (at + 4 + i) 0
  argument_is i h = get_or-take n (drop (at + 4) s) i 0 h ∙ get_or-drop (at + 4) s i 0

  abbrev pub arguments_left : ℕ → Verdict
  arguments_left place = first_wrong (arguments v place (drop (place - (at + 4)) (arguments_at s at n)))

  module _ (place : ℕ) (from : at + 4 ≤ place) (to : place < at + 4 + n) where
    first : drop (place - (at + 4)) (arguments_at s at n) ≡ get_or s place 0 ∷ drop (place + 1 - (at + 4)) (arguments_at s at n)
    first =
        let i = place - (at + 4) in
        let p : suc i ≡ place + 1 - (at + 4) = omega arith in
        let q : at + 4 + i ≡ place = omega arith in
        drop-cons (arguments_at s at n) i 0 (omega (arith, arguments_length))
        ∙ ap₂ ◌∷◌ (argument_is i (omega arith) ∙ ap (λ (k : ℕ). get_or s k 0) q) (ap (λ (k : ℕ). drop k (arguments_at s at n)) p)

    abbrev argument : List Name
    argument = variable v place (get_or s place 0) ∷ []

    argument_split : arguments_left place ≡ or_else (first_wrong argument) (arguments_left (place + 1))
    argument_split =
        ap (λ (ys : List ℕ). first_wrong (arguments v place ys)) first
        ∙ first_append argument (arguments v (place + 1) (drop (place + 1 - (at + 4)) (arguments_at s at n)))

    pub argument_on : accepted ≡ first_wrong argument → arguments_left (place + 1) ≡ arguments_left place
    argument_on e = sym (argument_split ∙ ap (λ u. or_else u (arguments_left (place + 1))) (sym e))

    pub argument_wrong : {k : Reason} {p : ℕ} → refused k p ≡ first_wrong argument → refused k p ≡ arguments_left place
    argument_wrong e = ap (λ u. or_else u (arguments_left (place + 1))) e ∙ sym argument_split

  pub arguments_done : (place : ℕ) → at + 4 + n ≤ place → accepted ≡ arguments_left place
  arguments_done place h = rw (drop_of_length-le (arguments_at s at n) {i = place - (at + 4)} (omega (arith, arguments_length)))

  pub arguments_start : arguments_left (at + 4) ≡ first_wrong (arguments v (at + 4) (arguments_at s at n))
  arguments_start =
      let p : at + 4 - (at + 4) ≡ 0 = omega arith in
      ap (λ (k : ℕ). first_wrong (arguments v (at + 4) (drop k (arguments_at s at n)))) p

-- The bytes of an operation stand in the file.
abbrev Room : List ℕ → ℕ → Operation → Type 0
Room s at (Constant x i next) = at + 6 ≤ length s
Room s at (Copy x y next) = at + 3 ≤ length s
Room s at (Difference x y z next) = at + 4 ≤ length s
Room s at (Call x g n next) = at + 4 + n ≤ length s
Room s at (Goto l next) = at + 2 ≤ length s
Room s at (Return x next) = at + 2 ≤ length s
Room s at (Branch y z l m next) = at + 5 ≤ length s
Room s at (Raise next) = at + 1 ≤ length s
Room s at (RaiseValue x next) = at + 2 ≤ length s
Room s at (Refused r) = Unit {0}

room : (s : List ℕ) (at : ℕ) {o : Operation} → View s at o → Room s at o
room s at (is_constant e h) = h
room s at (is_copy e h) = h
room s at (is_difference e h) = h
room s at (is_call e h) = h
room s at (is_goto e h) = h
room s at (is_return e h) = h
room s at (is_branch e h) = h
room s at (is_raise e h) = h
room s at (is_raise_value e h w) = h
room s at (is_refused r) = tt

pub call_room : (s : List ℕ) (at x g n next : ℕ) → operation_at s at ≡ Call x g n next → at + 4 + n ≤ length s
call_room s at x g n next e = subst (Room s at) e (room s at (view s at))

pub past_names : (ps : List ℕ) (v n : ℕ) (s : List ℕ) (at : ℕ) → length s ≤ at → accepted ≡ first_wrong (operation_names ps v n s at (operation_at s at))
past_names ps v n s at h = rw (operation_past s at h)

-- An operation that is known by its form.
pub by_form : (ps : List ℕ) (v n : ℕ) (s : List ℕ) (at : ℕ) (o o' : Operation) (u : Verdict) → o ≡ o'
    → u ≡ first_wrong (operation_names ps v n s at o') → u ≡ first_wrong (operation_names ps v n s at o)
by_form ps v n s at o o' u e h = rw e h

-- The names of a block, by its first operation.
module _ (ps : List ℕ) (v n : ℕ) (s : List ℕ) where
  abbrev pub block_verdict : ℕ → Verdict
  block_verdict at = first_wrong (block_names ps v n at (rest_at s at))

  onward : (at next : ℕ) {o : Operation} → View s at o → after_of o ≡ Onward next
      → first_wrong (block_names ps v n at (rest_from s at o (rest_at s))) ≡ or_else (first_wrong (operation_names ps v n s at o)) (block_verdict next)
  onward at next {o} w e = go w e
    where
      step : (xs : List Name) (m : ℕ) → m ≡ next → first_wrong (xs ++ block_names ps v n m (rest_at s m)) ≡ or_else (first_wrong xs) (block_verdict next)
      step xs m p = rw (← p) (first_append xs (block_names ps v n m (rest_at s m)))

      go : {o : Operation} → View s at o → after_of o ≡ Onward next
          → first_wrong (block_names ps v n at (rest_from s at o (rest_at s))) ≡ or_else (first_wrong (operation_names ps v n s at o)) (block_verdict next)
      go (is_constant a h) e = step (variable v (at + 1) (get_or s (at + 1) 0) ∷ []) (at + 6) (cc)
      go (is_copy a h) e = step (variable v (at + 1) (get_or s (at + 1) 0) ∷ variable v (at + 2) (get_or s (at + 2) 0) ∷ []) (at + 3) (cc)
      go (is_difference a h) e =
          step (variable v (at + 1) (get_or s (at + 1) 0) ∷ variable v (at + 2) (get_or s (at + 2) 0) ∷ variable v (at + 3) (get_or s (at + 3) 0) ∷ []) (at + 4) (cc)
      go (is_call a h) e =
          let k = get_or s (at + 3) 0 in
          let g = get_or s (at + 2) 0 in
          rw (arguments_length s v at k h)
          (step (variable v (at + 1) (get_or s (at + 1) 0) ∷ function ps (at + 2) g ∷ arity ps (at + 3) g k ∷ arguments v (at + 4) (arguments_at s at k)) (at + 4 + k) (cc))
      go (is_goto a h) e = impossible (cc)
      go (is_return a h) e = impossible (cc)
      go (is_branch a h) e = impossible (cc)
      go (is_raise a h) e = impossible (cc)
      go (is_raise_value a h w) e = impossible (cc)
      go (is_refused r) e = impossible (cc)

  pub block_on : (at next : ℕ) → after_of (operation_at s at) ≡ Onward next
      → block_verdict at ≡ or_else (first_wrong (operation_names ps v n s at (operation_at s at))) (block_verdict next)
  block_on at next e = ap (λ (b : Block). first_wrong (block_names ps v n at b)) (rest_law s at) ∙ onward at next (view s at) e

  last : (at : ℕ) {o : Operation} → View s at o → ((next : ℕ) → after_of o ≡ Onward next → ⊥)
      → first_wrong (block_names ps v n at (rest_from s at o (rest_at s))) ≡ first_wrong (operation_names ps v n s at o)
  last at (is_constant a h) e = absurd (e (at + 6) refl)
  last at (is_copy a h) e = absurd (e (at + 3) refl)
  last at (is_difference a h) e = absurd (e (at + 4) refl)
  last at (is_call a h) e = absurd (e (at + 4 + get_or s (at + 3) 0) refl)
  last at (is_goto a h) e = refl
  last at (is_return a h) e = refl
  last at (is_branch a h) e = refl
  last at (is_raise a h) e = refl
  last at (is_raise_value a h w) e = refl
  last at (is_refused r) e = refl

  pub block_last : (at : ℕ) → ((next : ℕ) → after_of (operation_at s at) ≡ Onward next → ⊥)
      → block_verdict at ≡ first_wrong (operation_names ps v n s at (operation_at s at))
  block_last at e = ap (λ (b : Block). first_wrong (block_names ps v n at b)) (rest_law s at) ∙ last at (view s at) e

  -- A name of the first operation is wrong.
  pub block_wrong : (at : ℕ) (k : Reason) (p : ℕ) → refused k p ≡ first_wrong (operation_names ps v n s at (operation_at s at)) → refused k p ≡ block_verdict at
  block_wrong at k p e = wrong (view s at) e ∙ sym (ap (λ (b : Block). first_wrong (block_names ps v n at b)) (rest_law s at))
    where
      on : {o : Operation} (next : ℕ) → View s at o → after_of o ≡ Onward next → refused k p ≡ first_wrong (operation_names ps v n s at o)
          → refused k p ≡ first_wrong (block_names ps v n at (rest_from s at o (rest_at s)))
      on next w a e = ap (λ u. or_else u (block_verdict next)) e ∙ sym (onward at next w a)

      wrong : {o : Operation} → View s at o → refused k p ≡ first_wrong (operation_names ps v n s at o) → refused k p ≡ first_wrong (block_names ps v n at (rest_from s at o (rest_at s)))
      wrong (is_constant a h) e = on (at + 6) (is_constant a h) refl e
      wrong (is_copy a h) e = on (at + 3) (is_copy a h) refl e
      wrong (is_difference a h) e = on (at + 4) (is_difference a h) refl e
      wrong (is_call a h) e = on (at + 4 + get_or s (at + 3) 0) (is_call a h) refl e
      wrong (is_goto a h) e = e
      wrong (is_return a h) e = e
      wrong (is_branch a h) e = e
      wrong (is_raise a h) e = e
      wrong (is_raise_value a h w) e = e
      wrong (is_refused r) e = e

  -- A turn of the loop over a block.
  module _ (at : ℕ) (o : Operation) (r : Result (Unit {0}) Refusal) (is : o ≡ operation_at s at) (bare_stop : verdict_of r ≡ first_wrong (operation_names ps v n s at o)) where
    first_is : verdict_of r ≡ first_wrong (operation_names ps v n s at (operation_at s at))
    first_is = rw is at bare_stop

    pub turn_wrong : (q : Refusal) → r ≡ Err q → refused q.reason q.place ≡ block_verdict at
    turn_wrong q e = block_wrong at q.reason q.place (sym (ap verdict_of e) ∙ first_is)

    pub turn_on : (next : ℕ) (a : After) → r ≡ (Ok tt) → a ≡ after_of o → a ≡ Onward next → block_verdict next ≡ block_verdict at
    turn_on next a e f g =
        let w : accepted ≡ first_wrong (operation_names ps v n s at (operation_at s at)) = sym (ap verdict_of e) ∙ first_is in
        sym (block_on at next (ap after_of (sym is) ∙ sym f ∙ g) ∙ ap (λ u. or_else u (block_verdict next)) (sym w))

    pub turn_last : (a : After) → r ≡ (Ok tt) → a ≡ after_of o → ((next : ℕ) → a ≡ Onward next → ⊥) → accepted ≡ block_verdict at
    turn_last a e f g =
        sym (ap verdict_of e) ∙ first_is ∙ sym (block_last at (λ next w. g next (f ∙ ap after_of is ∙ w)))

pub not_ended : (a : After) (m next : ℕ) → a ≡ Ended m → a ≡ Onward next → ⊥
not_ended a m next e f = impossible (cc)

pub not_halted : (a : After) (r : Refusal) (next : ℕ) → a ≡ Halted r → a ≡ Onward next → ⊥
not_halted a r next e f = impossible (cc)
