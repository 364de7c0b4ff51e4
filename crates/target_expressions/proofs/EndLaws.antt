-- Laws of the ends of parts, as the functions that read an expression meet them.
use Rattle.target_slots.specs.declared.slots.Kind.{Kind}
use Rattle.target_tags.specs.NumberSlot.{NumberSlot}
use Rattle.std.specs.Prelude.{ℕ, ◌+◌, ◌≤◌, ◌≡◌, Bool, List, [], ◌∷◌, length, Err, Ok, Result}
use Rattle.std.proofs.Math.Path.{refl, ap}
use Rattle.std.proofs.Common.{sym, ◌∙◌, arith}
use Rattle.std.proofs.Math.Option.{Option, none, some}
use denote.Enum.Declared.{tag_of}
use types.Run.{OneOf, miss}
use Rattle.semantics.specs.Code.{Expr}
use Rattle.parsing.specs.declared.Refusal.{Refusal}
use Rattle.parsing.specs.Parser.{Parsed, read, refuse, and_then, past_of, Verdict, accepted, refused, verdict_of}
use Rattle.parsing.specs.Fields.{version_of, counted}
use Rattle.parsing.specs.ParserLaws.{past_read}
use Rattle.target_tags.specs.contracts.tag.Tag.{the_type}
use Rattle.target_tags.specs.declared.tag.Tag.{Tag}
use Rattle.target_tags.specs.declared.tag.Tag.TheVariants.{Constant, Copy, Difference, Jump, Resume, Handle, Branch, Continuation, ContinuationWithHandler, DifferenceOrRaise, Refused}
use Rattle.target_tags.specs.Tag.{number_width, tag_at}
use Rattle.target_tags.specs.ViewLaws.{seen}
use Rattle.target_slots.specs.Slots.{bound, bound_number}
use Rattle.target_names.specs.Names.{judged}
use Rattle.target_parts.specs.declared.parts.After.{After}
use Rattle.target_parts.specs.declared.parts.After.TheVariants.{Onward, Bound, Ended, Halted}
use Rattle.target_parts.specs.Parts.{pair, measured, sized, level_verdict, measured_end, fields_end, follows_at, follows_of}
use Rattle.target_parts.specs.PartsLaws.{pair_is, pair_outside, past_measured}
use Rattle.target_expressions.specs.Expressions.{after, nested, before, Behind, ends, goes_on, goes_on_bound, part, sized_part, Node, found, missing, node_of, read_behind, read_node, expression}
use Rattle.target_expressions.specs.Ends.{then_past, then_after, after_of, behind_end, after_node, inner, part_end, handler_end, continuation_with_handler_end, parts_end, node_end, body_end}
use Rattle.target_expressions.proofs.ExpressionLaws.{Fields, NodeIn, node_in, expression_law}
use Rattle.target_expressions.proofs.PartLaws.{impossible, measured_read, nested_read, sized_read, expression_inside}

-- ── The ends of parts ───────────────────────────────────────────────────────────────────────────

module _ (names : Bool) (ps s : List ℕ) (level : ℕ) (ks : List Kind) where
  -- A nested part.
  module _ (place at n : ℕ) where
    module _ {c : Result (Unit {0}) Refusal} (is : verdict_of c ≡ level_verdict s level at) where
      pub part_refused : (r : Refusal) → c ≡ Err r → Err r ≡ part_end names ps s level ks place at n
      unfolding part_end
      part_refused r e = rw (← is, e)

      pub part_in : {part : Result ℕ Refusal} → c ≡ Ok tt → part ≡ past_of (expression names ps (level + 1) ks s at) → measured_end place at n part ≡ part_end names ps s level ks place at n
      unfolding part_end
      part_in e f = rw (← is, e) (ap (measured_end place at n) f ∙ past_measured place at n (expression names ps (level + 1) ks s at))

    pub record PartPast (next : ℕ) : Type 0 where
      pub fills : next ≡ at + n
      pub inside : next ≤ length s

    pub part_past : (next : ℕ) → part_end names ps s level ks place at n ≡ Ok next → PartPast next
    unfolding part_end
    part_past next e =
        let r = past_read (measured place at n (nested s (inner names ps s) level ks at)) e in
        let m = measured_read place at n (nested s (inner names ps s) level ks at) r.is in
        let d = nested_read s (inner names ps s) level ks at m.reads in
        record { fills = m.fills; inside = expression_inside names ps s (level + 1) ks at d.reads }

  -- The nested parts of tag 9: the rest, the length of the handler body, the handler body.
  module _ (at x t : ℕ) (q : NumberSlot) (n next w : ℕ) (ks₁ ks' : List Kind) (width : w ≡ number_width (version_of s)) (first : ks₁ ≡ bound ks x Kind.Continuation) (second : ks' ≡ bound ks₁ t Kind.Handler) where
    pub rest_stopped : (r : Refusal) → part_end names ps s level ks' (at + 4 + w) next n ≡ Err r → Err r ≡ continuation_with_handler_end names ps s level ks at x t q n next
    unfolding continuation_with_handler_end
    rest_stopped r e = rw (← first, ← second, ← width, e)

    module _ (m : ℕ) (past : part_end names ps s level ks' (at + 4 + w) next n ≡ Ok m) where
      pub handler_outside : (r : Refusal) → counted (pair s m) ≡ Err r → Err r ≡ continuation_with_handler_end names ps s level ks at x t q n next
      unfolding continuation_with_handler_end handler_end
      handler_outside r e = rw (← first, ← second, ← width, past, pair_outside s m e)

      pub handler_in : (k : ℕ) (ks₂ : List Kind) {y : Result ℕ Refusal} → ks₂ ≡ bound_number ks q → counted (pair s m) ≡ Ok k → y ≡ part_end names ps s level ks₂ m (m + 2) k
          → y ≡ continuation_with_handler_end names ps s level ks at x t q n next
      unfolding continuation_with_handler_end handler_end part_end
      handler_in k ks₂ third e f = rw (← first, ← second, ← third, ← width, past, pair_is s m e) f

-- The body of a function.
module _ (names : Bool) (ps s : List ℕ) (ks : List Kind) (at : ℕ) where
  pub body_cut : {r : Refusal} → counted (pair s at) ≡ Err r → Err r ≡ body_end names ps s ks at
  unfolding body_end
  body_cut e = rw (pair_outside s at e)

  pub body_in : (n : ℕ) {part : Result ℕ Refusal} → counted (pair s at) ≡ Ok n → part ≡ past_of (expression names ps 0 ks s (at + 2))
      → measured_end at (at + 2) n part ≡ body_end names ps s ks at
  unfolding body_end
  body_in n e f = rw (pair_is s at e, f) (past_measured at (at + 2) n (expression names ps 0 ks s (at + 2)))

-- ── What follows a node ─────────────────────────────────────────────────────────────────────────

-- Where an expression goes on behind a node.
abbrev pub onward_at : After → Option ℕ
onward_at (Onward m) = some m
onward_at (Bound m x) = some m
onward_at (Ended m) = none
onward_at (Halted r) = none

-- The end of the expression, where `k` gives it for what follows, by its offset and the kinds of its slots.
abbrev finish : List Kind → After → (ℕ → List Kind → Result ℕ Refusal) → Result ℕ Refusal
finish ks (Onward m) k = k m ks
finish ks (Bound m x) k = k m (bound ks x Kind.Whole)
finish ks (Ended m) k = Ok m
finish ks (Halted r) k = Err r

past_before : (t : Expr → Expr) (x : Parsed Expr) → past_of (before t x) ≡ past_of x
past_before t (read e m) = refl
past_before t (refuse r) = refl

past_then : (ks : List Kind) (x : Parsed Expr) (K : Expr → ℕ → Parsed Expr) (a : Expr → ℕ → After) (k : ℕ → List Kind → Result ℕ Refusal)
    → ((e : Expr) (m : ℕ) → past_of (K e m) ≡ finish ks (a e m) k) → past_of (and_then x K) ≡ finish ks (then_after x a) k
past_then ks (read e m) K a k f = f e m
past_then ks (refuse r) K a k f = refl

past_after : {A : Type 0} (ks : List Kind) (c : Verdict) (x : Parsed A) (a : After) (k : ℕ → List Kind → Result ℕ Refusal)
    → past_of x ≡ finish ks a k → past_of (after c x) ≡ finish ks (after_of c a) k
past_after ks accepted x a k e = e
past_after ks (refused n p) x a k e = refl

-- What follows begins behind the parts, inside the file.
then_moves : (s : List ℕ) (x : Parsed Expr) (k : Expr → ℕ → After) (m next : ℕ) → ((e : Expr) (i : ℕ) → x ≡ read e i → (m ≤ i) × (i ≤ length s))
    → ((e : Expr) (i : ℕ) → i ≤ length s → onward_at (k e i) ≡ some next → (i ≤ next) × (next ≤ length s))
    → onward_at (then_after x k) ≡ some next → (m ≤ next) × (next ≤ length s)
then_moves s (read e i) k m next f g w =
    let a = f e i refl in
    let b = g e i a.1 w in
    (omega arith, b.1)
then_moves s (refuse r) k m next f g w = impossible (cc)

module _ (names : Bool) (ps s : List ℕ) (level : ℕ) where
  behind_moves : (next m : ℕ) → m ≤ length s → (b : Behind) → onward_at (behind_end names ps s level m b) ≡ some next → (m ≤ next) × (next ≤ length s)
  behind_moves next m h (ends e) w = impossible (cc)
  behind_moves next m h (goes_on f) w = let q : m ≡ next = cc in (omega arith, omega arith)
  behind_moves next m h (goes_on_bound x f) w = let q : m ≡ next = cc in (omega arith, omega arith)
  behind_moves next m h (part place n kinds f) w =
      then_moves s (measured place m n (nested s (inner names ps s) level kinds m)) (λ e i. behind_end names ps s level i (f e)) m next
      (λ e i r.
      let a = measured_read place m n (nested s (inner names ps s) level kinds m) r in
      let d = nested_read s (inner names ps s) level kinds m a.reads in
      (omega (arith, a.fills), expression_inside names ps s (level + 1) kinds m d.reads))
      (λ e i l. behind_moves next i l (f e)) w
  behind_moves next m h (sized_part kinds f) w =
      then_moves s (sized (λ s' i. nested s (inner names ps s) level kinds i) s m) (λ e i. behind_end names ps s level i (f e)) m next
      (λ e i r.
      let a = sized_read (λ s' j. nested s (inner names ps s) level kinds j) s m r in
      let d = nested_read s (inner names ps s) level kinds (m + 2) a.reads in
      (omega (arith, a.fills), expression_inside names ps s (level + 1) kinds (m + 2) d.reads))
      (λ e i l. behind_moves next i l (f e)) w

  node_moves : (at next : ℕ) (N : Node) → NodeIn s at N → onward_at (after_node names ps s level N) ≡ some next → Fields s at next
  node_moves at next (found m b) i w =
      let a = behind_moves next m i.inside b w in
      let f = i.forward in
      record { here = i.here; forward = omega arith; inside = a.1 }
  node_moves at next (missing r) i w = impossible (cc)

module _ (names : Bool) (ps s : List ℕ) (level : ℕ) (ks : List Kind) (at : ℕ) where
  abbrev next_at : ℕ → List Kind → Result ℕ Refusal
  next_at m l = past_of (expression names ps level l s m)

  behind_past : (m : ℕ) (b : Behind) → past_of (read_behind s (inner names ps s) level ks m b) ≡ finish ks (behind_end names ps s level m b) next_at
  behind_past m (ends e) = refl
  behind_past m (goes_on f) = past_before f (inner names ps s level ks m)
  behind_past m (goes_on_bound x f) = past_before f (inner names ps s level (bound ks x Kind.Whole) m)
  behind_past m (part place n kinds f) =
      past_then ks (measured place m n (nested s (inner names ps s) level kinds m)) (λ e i. read_behind s (inner names ps s) level ks i (f e))
      (λ e i. behind_end names ps s level i (f e)) next_at (λ e i. behind_past i (f e))
  behind_past m (sized_part kinds f) =
      past_then ks (sized (λ s' i. nested s (inner names ps s) level kinds i) s m) (λ e i. read_behind s (inner names ps s) level ks i (f e))
      (λ e i. behind_end names ps s level i (f e)) next_at (λ e i. behind_past i (f e))

  node_past : (N : Node) → past_of (read_node s (inner names ps s) level ks N) ≡ finish ks (after_node names ps s level N) next_at
  node_past (found m b) = behind_past m b
  node_past (missing r) = refl

  module _ {t : Tag} {a : After} (is : t ≡ tag_at s at) (ends : a ≡ node_end names ps s level ks at t) where
    expression_past : {b : After} → a ≡ b → past_of (expression names ps level ks s at) ≡ finish ks b next_at
    unfolding node_end
    expression_past e =
        ap past_of (expression_law names ps s level ks at)
        ∙ ap (λ u. past_of (after (judged names ps ks s at u) (read_node s (inner names ps s) level ks (node_of s ks at u)))) (sym is)
        ∙ past_after ks (judged names ps ks s at t) (read_node s (inner names ps s) level ks (node_of s ks at t)) (after_node names ps s level (node_of s ks at t)) next_at (node_past (node_of s ks at t))
        ∙ ap (λ b. finish ks b next_at) (sym ends ∙ e)

    pub expression_onward : (next : ℕ) → a ≡ Onward next → past_of (expression names ps level ks s next) ≡ past_of (expression names ps level ks s at)
    expression_onward next e = sym (expression_past e)

    pub expression_bound : (next x : ℕ) (ks' : List Kind) → a ≡ Bound next x → ks' ≡ bound ks x Kind.Whole
        → past_of (expression names ps level ks' s next) ≡ past_of (expression names ps level ks s at)
    expression_bound next x ks' e f = ap (λ l. past_of (expression names ps level l s next)) f ∙ sym (expression_past e)

    pub expression_ended : (next : ℕ) → a ≡ Ended next → Ok next ≡ past_of (expression names ps level ks s at)
    expression_ended next e = sym (expression_past e)

    pub expression_halted : (r : Refusal) → a ≡ Halted r → Err r ≡ past_of (expression names ps level ks s at)
    expression_halted r e = sym (expression_past e)

    -- What goes on behind a node goes on behind its own fields, inside the file.
    pub onward_moves : {b : After} (next : ℕ) → a ≡ b → onward_at b ≡ some next → Fields s at next
    unfolding node_end
    onward_moves next e f = go (judged names ps ks s at t) (ap onward_at (sym ends ∙ e) ∙ f)
      where
        go : (c : Verdict) → onward_at (after_of c (after_node names ps s level (node_of s ks at t))) ≡ some next → Fields s at next
        go accepted w = node_moves names ps s level at next (node_of s ks at t) (node_in s at ks (seen s at t is)) w
        go (refused n p) w = impossible (cc)

-- ── The parts of a node, by its tag ─────────────────────────────────────────────────────────────

-- What follows a node behind its last part.
then_follows : (t : Tag) (x : Parsed Expr) (k : Expr → ℕ → After) → ((e : Expr) (m : ℕ) → follows_at t m ≡ k e m) → follows_of t (past_of x) ≡ then_after x k
then_follows t (read e m) k f = f e m
then_follows t (refuse r) k f = refl

-- What follows a node behind its first part and what `y` says of the second.
both_follow : (t : Tag) (x : Parsed Expr) (y : ℕ → Parsed Expr) (k : Expr → Expr → ℕ → After) → ((e h : Expr) (m : ℕ) → follows_at t m ≡ k e h m)
    → follows_of t (then_past (past_of x) (λ m. past_of (y m))) ≡ then_after x (λ e m. then_after (y m) (k e))
both_follow t (read e m) y k f = then_follows t (y m) (k e) (f e)
both_follow t (refuse r) y k f = refl

module _ (names : Bool) (ps s : List ℕ) (level : ℕ) (ks : List Kind) (at : ℕ) where
  node_follows : (t : Tag) → follows_of t (parts_end names ps s level ks at t) ≡ after_node names ps s level (node_of s ks at t)
  unfolding parts_end part_end handler_end continuation_with_handler_end follows_at
  node_follows (Constant x i next) = refl
  node_follows (Copy x y next) = refl
  node_follows (Difference x y z next) = refl
  node_follows (Jump g k h n next) = refl
  node_follows (Resume k y next) = refl
  node_follows (Handle h y next) = refl
  node_follows (Branch y z n next) =
      then_follows (Branch y z n next) (measured (at + 3) next n (nested s (inner names ps s) level ks next)) (λ e m. Onward m) (λ e m. refl)
  node_follows (Continuation x p n next) =
      then_follows (Continuation x p n next) (measured (at + 3) next n (nested s (inner names ps s) level (bound ks x Kind.Continuation) next)) (λ e m. Bound m p) (λ e m. refl)
  node_follows (ContinuationWithHandler x p t q n next) =
      both_follow (ContinuationWithHandler x p t q n next) (measured (at + 4 + number_width (version_of s)) next n (nested s (inner names ps s) level (bound (bound ks x Kind.Continuation) t Kind.Handler) next))
      (λ m. sized (λ s' i. nested s (inner names ps s) level (bound_number ks q) i) s m) (λ e h m. Bound m p) (λ e h m. refl)
  node_follows (DifferenceOrRaise x y z n next) =
      then_follows (DifferenceOrRaise x y z n next) (measured (at + 4) next n (nested s (inner names ps s) level ks next)) (λ e m. Bound m x) (λ e m. refl)
  node_follows (Refused r) = refl

  -- The names of a node, then its parts.
  module _ (t : Tag) {c : Result (Unit {0}) Refusal} (is : verdict_of c ≡ judged names ps ks s at t) where
    pub node_right : {a : After} {y : Result ℕ Refusal} → c ≡ Ok tt → a ≡ follows_of t y → y ≡ parts_end names ps s level ks at t → a ≡ node_end names ps s level ks at t
    unfolding node_end
    node_right e f g = rw (← is, e) (f ∙ ap (follows_of t) g ∙ node_follows t)

    pub node_wrong : (r : Refusal) → c ≡ Err r → Halted r ≡ node_end names ps s level ks at t
    unfolding node_end
    node_wrong r e = rw (← is, e)

  module _ {t : Tag} {y : Result ℕ Refusal} where
    pub parts_by_tag : {u : Tag} → t ≡ u → y ≡ parts_end names ps s level ks at u → y ≡ parts_end names ps s level ks at t
    parts_by_tag e f = rw e f

    pub continuation_on : {x p n next : ℕ} (ks' : List Kind) → t ≡ Continuation x p n next → ks' ≡ bound ks x Kind.Continuation → y ≡ part_end names ps s level ks' (at + 3) next n → y ≡ parts_end names ps s level ks at t
    unfolding parts_end
    continuation_on ks' e g f = rw (e, ← g) f

  -- A node that is none of tags 7 to 10 (the keys of the enum, from 0).
  pub no_parts_lem : (t : Tag) → OneOf (0 ∷ 1 ∷ 2 ∷ 3 ∷ 4 ∷ 5 ∷ 10 ∷ []) (tag_of the_type t) → fields_end t ≡ parts_end names ps s level ks at t
  unfolding parts_end fields_end
  no_parts_lem (Constant x i next) w = refl
  no_parts_lem (Copy x y next) w = refl
  no_parts_lem (Difference x y z next) w = refl
  no_parts_lem (Jump g k h n next) w = refl
  no_parts_lem (Resume k y next) w = refl
  no_parts_lem (Handle h y next) w = refl
  no_parts_lem (Branch y z n next) w = absurd (miss (0 ∷ 1 ∷ 2 ∷ 3 ∷ 4 ∷ 5 ∷ 10 ∷ []) 6 tt w)
  no_parts_lem (Continuation x p n next) w = absurd (miss (0 ∷ 1 ∷ 2 ∷ 3 ∷ 4 ∷ 5 ∷ 10 ∷ []) 7 tt w)
  no_parts_lem (ContinuationWithHandler x p t q n next) w = absurd (miss (0 ∷ 1 ∷ 2 ∷ 3 ∷ 4 ∷ 5 ∷ 10 ∷ []) 8 tt w)
  no_parts_lem (DifferenceOrRaise x y z n next) w = absurd (miss (0 ∷ 1 ∷ 2 ∷ 3 ∷ 4 ∷ 5 ∷ 10 ∷ []) 9 tt w)
  no_parts_lem (Refused r) w = refl
