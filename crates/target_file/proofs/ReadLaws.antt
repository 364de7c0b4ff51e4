-- An expression that was read stands there, nests as deep as is allowed, and has right names where they were judged.
use Rattle.target_slots.specs.declared.slots.Kind.{Kind}
use Rattle.target_tags.specs.NumberSlot.{NumberSlot}
use Prim.Native.Nat.{ℕ, zero, suc, ◌+◌, ◌≤◌, ◌<◌}
use Rattle.std.specs.Prelude.{◌≡◌, Bool, true, List, drop}
use Rattle.std.proofs.Math.Path.{refl, sym, ap, ap₂, subst}
use Rattle.std.proofs.Common.{◌∙◌, arith, length-drop, length-take-le}
use Rattle.std.proofs.Math.Bool.{cond}
use Rattle.std.proofs.Math.ListN.{length, get_or}
use Rattle.semantics.specs.Code.{Expr, Code}
use Rattle.parsing.specs.Parser.{read, accepted, or_else}
use Rattle.parsing.specs.VerdictLaws.{or_accepted}
use Rattle.parsing.specs.ParserLaws.{sequence}
use Rattle.parsing.specs.Fields.{version_of}
use Rattle.target_tags.specs.declared.tag.Tag.{Tag}
use Rattle.target_tags.specs.declared.tag.Tag.TheVariants.{Handle, Branch, Continuation, ContinuationWithHandler, DifferenceOrRaise}
use Rattle.target_tags.specs.Tag.{slots_in, number_width, number_slot_at, slot_in, number_slot, pair_at, tag_at}
use Rattle.target_slots.specs.Slots.{binds, reads, differ, bound}
use Rattle.target_names.specs.Names.{function, arity, values, reads_number, binds_number, jump_names, handle_names, continuation_with_handler_names, names_of, judged}
use Rattle.target_tags.specs.ViewLaws.{View, is_constant, is_copy, is_difference, is_jump, is_resume, is_handle, is_branch, is_continuation, is_continuation_with_handler, is_difference_or_raise, is_refused, view}
use Rattle.target_parts.specs.Parts.{measured, sized}
use Rattle.target_expressions.specs.Expressions.{Reading, nested, Behind, ends, goes_on, goes_on_bound, part, sized_part, Node, found, missing, node_of, read_behind, read_node, expression_n, expression, slots_at}
use Rattle.semantics.specs.SlotRules.{whole_kind, continuation_kind, handler_kind, Kinds, bind_kind, bind_number_kind, KeepsRules}
use Rattle.target_file.specs.Check.{arities}
use Rattle.target_file.specs.Writing.{size, Nests}
use Rattle.target_file.specs.LoadedCode.{ExprAt}
use Rattle.target_expressions.proofs.PartLaws.{impossible, before_read, after_read, measured_read, nested_read, sized_read}
use Rattle.target_file.specs.NumberSlotLaws.{slot_forth, slot_width_lem}
use Rattle.target_file.proofs.RightLaws.{Like, like_bind, like_number, binds_right, reads_right, reads_number_right, binds_number_right, difference_right, differ_right, function_right, arity_right, values_right}

pub slots_length : (s : List ℕ) (at n : ℕ) → at + n ≤ length s → length (slots_at s at n) ≡ n
slots_length s at n h = let l = length-drop at s in length-take-le n (drop at s) (omega arith)

module _ (names : Bool) (ps s : List ℕ) (Q : Code) (named : names ≡ true → ps ≡ arities Q) where
  -- The slots of the file's version.
  abbrev slots : ℕ
  slots = slots_in (version_of s)

  pub record Found (level : ℕ) (ks : List Kind) (at : ℕ) (e : Expr) (next : ℕ) : Type 0 where
    pub here : ExprAt s at e
    pub past : next ≡ at + size e
    pub nests : Nests level e
    pub right : names ≡ true → (KS : Kinds) → Like slots KS ks → KeepsRules Q slots KS e

  Finds : Reading → Type 0
  Finds k = (level : ℕ) (ks : List Kind) (at : ℕ) (e : Expr) (next : ℕ) → k level ks at ≡ read e next → Found level ks at e next

  -- A nested part that fills its length.
  record FoundPart (level : ℕ) (ks : List Kind) (at n : ℕ) (e : Expr) : Type 0 where
    shallow : level < 16
    stands : Found (level + 1) ks at e (at + size e)
    fills : n ≡ size e

  -- What was found behind a node's own fields, and makes the expression e.
  abbrev FoundBehind : ℕ → List Kind → ℕ → Behind → Expr → ℕ → Type 0
  FoundBehind level ks m (ends r) e next = (r ≡ e) × (m ≡ next)
  FoundBehind level ks m (goes_on f) e next = (r : Expr) × Found level ks m r next × (f r ≡ e)
  FoundBehind level ks m (goes_on_bound x f) e next = (r : Expr) × Found level (bound ks x Kind.Whole) m r next × (f r ≡ e)
  FoundBehind level ks m (part place n kinds f) e next = (p : Expr) × FoundPart level kinds m n p × FoundBehind level ks (m + size p) (f p) e next
  FoundBehind level ks m (sized_part kinds f) e next =
      (p : Expr) × FoundPart level kinds (m + 2) (pair_at s m) p × FoundBehind level ks (m + 2 + size p) (f p) e next

  abbrev FoundNode : ℕ → List Kind → Node → Expr → ℕ → Type 0
  FoundNode level ks (found m b) e next = FoundBehind level ks m b e next
  FoundNode level ks (missing r) e next = ⊥

  module _ (k : Reading) (ih : Finds k) (level : ℕ) (ks : List Kind) where
    part_found : (kinds : List Kind) (at n : ℕ) (p : Expr) (m : ℕ) → nested s k level kinds at ≡ read p m → m ≡ at + n → FoundPart level kinds at n p
    unfolding Finds
    part_found kinds at n p m w q =
        let d = nested_read s k level kinds at w in
        let f = ih (level + 1) kinds at p m d.reads in
        record { shallow = d.shallow; stands = subst (λ (i : ℕ). Found (level + 1) kinds at p i) f.past f; fills = omega (arith, f.past) }

    behind_found : (m : ℕ) (b : Behind) {e : Expr} {next : ℕ} → read_behind s k level ks m b ≡ read e next → FoundBehind level ks m b e next
    unfolding Finds
    behind_found m (ends r) w = (cc, cc)
    behind_found m (goes_on f) {e} {next} w = let b = before_read f (k level ks m) w in (b.rest, ih level ks m b.rest next b.reads, b.is)
    behind_found m (goes_on_bound x f) {e} {next} w =
        let b = before_read f (k level (bound ks x Kind.Whole) m) w in (b.rest, ih level (bound ks x Kind.Whole) m b.rest next b.reads, b.is)
    behind_found m (part place n kinds f) {e} {next} w =
        let b = sequence (measured place m n (nested s k level kinds m)) (λ r i. read_behind s k level ks i (f r)) w in
        let a = measured_read place m n (nested s k level kinds m) b.reads in
        let p = part_found kinds m n b.first b.middle a.reads a.fills in
        let q : b.middle ≡ m + size b.first = omega (arith, a.fills, p.fills) in
        (b.first, p, subst (λ (i : ℕ). FoundBehind level ks i (f b.first) e next) q (behind_found b.middle (f b.first) b.follows))
    behind_found m (sized_part kinds f) {e} {next} w =
        let b = sequence (sized (λ s' i. nested s k level kinds i) s m) (λ r i. read_behind s k level ks i (f r)) w in
        let a = sized_read (λ s' i. nested s k level kinds i) s m b.reads in
        let p = part_found kinds (m + 2) (pair_at s m) b.first b.middle a.reads a.fills in
        let q : b.middle ≡ m + 2 + size b.first = omega (arith, a.fills, p.fills) in
        (b.first, p, subst (λ (i : ℕ). FoundBehind level ks i (f b.first) e next) q (behind_found b.middle (f b.first) b.follows))

    node_found : (N : Node) {e : Expr} {next : ℕ} → read_node s k level ks N ≡ read e next → FoundNode level ks N e next
    node_found (found m b) w = behind_found m b w
    node_found (missing r) w = impossible (cc)

  module _ (level : ℕ) (ks : List Kind) (at : ℕ) {e : Expr} {next : ℕ} where
    by_equal : {r : Expr} → r ≡ e → Found level ks at r next → Found level ks at e next
    by_equal q f = subst (λ r. Found level ks at r next) q f

    from_found : {t : Tag} → View s at t → t ≡ tag_at s at → (names ≡ true → names_of slots ps ks s at t ≡ accepted) → FoundNode level ks (node_of s ks at t) e next → Found level ks at e next
    unfolding names_of jump_names handle_names continuation_with_handler_names
    from_found (is_constant f h) is right (r, F, o) =
        let x = get_or s (at + 1) 0 in
        by_equal o
        (record {
          here = (sym is, F.here);
          past = omega (arith, F.past);
          nests = F.nests;
          right = λ q KS l. let b = binds_right (at + 1) x (right q) in (b, F.right q (bind_kind KS x whole_kind) (like_bind x whole_kind b l));
        })
    from_found (is_copy f h) is right (r, F, o) =
        let x = get_or s (at + 1) 0 in
        let y = get_or s (at + 2) 0 in
        by_equal o
        (record {
          here = (sym is, F.here);
          past = omega (arith, F.past);
          nests = F.nests;
          right = λ q KS l.
              let a = or_accepted (binds slots (at + 1) x) (reads slots ks Kind.Whole (at + 2) y) (right q) in
              let b = binds_right (at + 1) x a.0 in
              (b, reads_right l whole_kind (at + 2) y a.1, F.right q (bind_kind KS x whole_kind) (like_bind x whole_kind b l));
        })
    from_found (is_difference f h) is right (r, F, o) =
        let x = get_or s (at + 1) 0 in
        let y = get_or s (at + 2) 0 in
        let z = get_or s (at + 3) 0 in
        by_equal o
        (record {
          here = (sym is, F.here);
          past = omega (arith, F.past);
          nests = F.nests;
          right = λ q KS l.
              let a = difference_right l at x y z (right q) in
              (a.0, a.1, a.2, F.right q (bind_kind KS x whole_kind) (like_bind x whole_kind a.0 l));
        })
    from_found (is_jump f h) is right (o, m) =
        let g = pair_at s (at + 1) in
        let c = get_or s (at + 3) 0 in
        let d = get_or s (at + 4) 0 in
        let n = get_or s (at + 5) 0 in
        let few : length (slots_at s (at + 6) n) ≡ n = slots_length s (at + 6) n h in
        by_equal o
        (record {
          here = (rw few (sym is), rw few refl);
          past = omega arith;
          nests = tt;
          right = λ q KS l.
              let w = or_accepted (jump_names slots ps ks at g c d n) (values slots ks s (at + 6) n) (right q) in
              let v = or_accepted (or_else (function ps (at + 1) g) (or_else (reads slots ks Kind.Continuation (at + 3) c) (reads slots ks Kind.Handler (at + 4) d))) (arity ps (at + 5) g n) w.0 in
              let a = or_accepted (function ps (at + 1) g) (or_else (reads slots ks Kind.Continuation (at + 3) c) (reads slots ks Kind.Handler (at + 4) d)) v.0 in
              let u = or_accepted (reads slots ks Kind.Continuation (at + 3) c) (reads slots ks Kind.Handler (at + 4) d) a.1 in
              (function_right Q (named q) (at + 1) g a.0, reads_right l continuation_kind (at + 3) c u.0, reads_right l handler_kind (at + 4) d u.1, few ∙ arity_right Q (named q) (at + 5) g n v.1, values_right l s n (at + 6) h w.1);
        })
    from_found (is_resume f h) is right (o, m) =
        let c = get_or s (at + 1) 0 in
        let y = get_or s (at + 2) 0 in
        by_equal o
        (record {
          here = sym is;
          past = sym m;
          nests = tt;
          right = λ q KS l. let a = or_accepted (reads slots ks Kind.Continuation (at + 1) c) (reads slots ks Kind.Whole (at + 2) y) (right q) in (reads_right l continuation_kind (at + 1) c a.0, reads_right l whole_kind (at + 2) y a.1);
        })
    from_found (is_handle f h) is right (o, m) =
        let c = get_or s (at + 1) 0 in
        let y = number_slot_at s (at + 2) in
        let w = slot_width_lem s (at + 2) in
        by_equal o
        (record {
          here = sym is ∙ ap₂ (λ (z : NumberSlot) (n : ℕ). Handle c z (at + 2 + n)) (sym (slot_forth y)) w;
          past = omega (arith, m, w);
          nests = tt;
          right = λ q KS l.
              let a = or_accepted (reads slots ks Kind.Handler (at + 1) c) (reads_number slots ks (at + 2) y) (right q) in
              (reads_right l handler_kind (at + 1) c a.0, reads_number_right l (at + 2) y a.1);
        })
    from_found (is_branch f h) is right (r, P, (k, F, o)) =
        let y = get_or s (at + 1) 0 in
        let z = get_or s (at + 2) 0 in
        by_equal o
        (record {
          here = (sym is ∙ ap (λ (j : ℕ). Branch y z j (at + 5)) P.fills, P.stands.here, F.here);
          past = omega (arith, F.past);
          nests = (P.shallow, P.stands.nests, F.nests);
          right = λ q KS l.
              let a = or_accepted (reads slots ks Kind.Whole (at + 1) y) (reads slots ks Kind.Whole (at + 2) z) (right q) in
              (reads_right l whole_kind (at + 1) y a.0, reads_right l whole_kind (at + 2) z a.1, P.stands.right q KS l, F.right q KS l);
        })
    from_found (is_continuation f h) is right (r, P, (k, F, o)) =
        let x = get_or s (at + 1) 0 in
        let y = get_or s (at + 2) 0 in
        by_equal o
        (record {
          here = (sym is ∙ ap (λ (j : ℕ). Continuation x y j (at + 5)) P.fills, P.stands.here, F.here);
          past = omega (arith, F.past);
          nests = (P.shallow, P.stands.nests, F.nests);
          right = λ q KS l.
              let a = or_accepted (binds slots (at + 1) x) (binds slots (at + 2) y) (right q) in
              let b₁ = binds_right (at + 1) x a.0 in
              let b₂ = binds_right (at + 2) y a.1 in
              (b₁, b₂, P.stands.right q (bind_kind KS x continuation_kind) (like_bind x continuation_kind b₁ l), F.right q (bind_kind KS y whole_kind) (like_bind y whole_kind b₂ l));
        })
    from_found (is_continuation_with_handler f h) is right (r, P, (c, H, (k, F, o))) =
        let x = get_or s (at + 1) 0 in
        let y = get_or s (at + 2) 0 in
        let t = get_or s (at + 3) 0 in
        let z = number_slot_at s (at + 4) in
        let w = slot_width_lem s (at + 4) in
        let v = number_width (version_of s) in
        let ends = or_else (binds slots (at + 3) t) (differ (at + 3) x t) in
        by_equal o
        (record {
          here = subst (λ (n : ℕ). let i = at + 6 + n in
              (tag_at s at ≡ ContinuationWithHandler x y t (number_slot (slot_in z)) (size r) i) × (pair_at s (i + size r) ≡ size c)
              × ExprAt s i r × ExprAt s (i + size r + 2) c × ExprAt s (i + size r + 2 + size c) k) w (
                sym is ∙ ap₂ (λ (u : NumberSlot) (j : ℕ). ContinuationWithHandler x y t u j (at + 6 + v)) (sym (slot_forth z)) P.fills,
                H.fills,
                P.stands.here,
                H.stands.here,
                F.here,
              );
          past = omega (arith, F.past, w);
          nests = (P.shallow, P.stands.nests, (P.shallow, H.stands.nests, F.nests));
          right = λ q KS l.
              let a = or_accepted (or_else (binds slots (at + 1) x) (binds slots (at + 2) y)) (or_else ends (binds_number slots (at + 4) z)) (right q) in
              let a₁ = or_accepted (binds slots (at + 1) x) (binds slots (at + 2) y) a.0 in
              let a₂ = or_accepted ends (binds_number slots (at + 4) z) a.1 in
              let a₃ = or_accepted (binds slots (at + 3) t) (differ (at + 3) x t) a₂.0 in
              let b₁ = binds_right (at + 1) x a₁.0 in
              let b₂ = binds_right (at + 2) y a₁.1 in
              let b₃ = binds_right (at + 3) t a₃.0 in
              let b₄ = binds_number_right slots (at + 4) z a₂.1 in (
                b₁,
                b₂,
                b₃,
                differ_right (at + 3) x t a₃.1,
                b₄,
                P.stands.right q (bind_kind (bind_kind KS x continuation_kind) t handler_kind) (like_bind t handler_kind b₃ (like_bind x continuation_kind b₁ l)),
                H.stands.right q (bind_number_kind KS (slot_in z)) (like_number z b₄ l),
                F.right q (bind_kind KS y whole_kind) (like_bind y whole_kind b₂ l),
              );
        })
    from_found (is_difference_or_raise f h) is right (r, P, (k, F, o)) =
        let x = get_or s (at + 1) 0 in
        let y = get_or s (at + 2) 0 in
        let z = get_or s (at + 3) 0 in
        by_equal o
        (record {
          here = (sym is ∙ ap (λ (j : ℕ). DifferenceOrRaise x y z j (at + 6)) P.fills, P.stands.here, F.here);
          past = omega (arith, F.past);
          nests = (P.shallow, P.stands.nests, F.nests);
          right = λ q KS l.
              let a = difference_right l at x y z (right q) in
              (a.0, a.1, a.2, P.stands.right q KS l, F.right q (bind_kind KS x whole_kind) (like_bind x whole_kind a.0 l));
        })
    from_found (is_refused r) is right w = absurd w

  judged_right : (ks : List Kind) (at : ℕ) (t : Tag) → judged names ps ks s at t ≡ accepted → names ≡ true → names_of slots ps ks s at t ≡ accepted
  unfolding judged
  judged_right ks at t e q = sym (ap (λ b. cond b (names_of slots ps ks s at t) accepted) q) ∙ e

  found_fuel : (n level : ℕ) (ks : List Kind) (at : ℕ) (e : Expr) (next : ℕ) → expression_n names ps s n level ks at ≡ read e next → Found level ks at e next
  unfolding Finds
  found_fuel zero level ks at e next w = impossible (cc)
  found_fuel (suc n) level ks at e next w =
      let r = after_read (judged names ps ks s at (tag_at s at)) (read_node s (expression_n names ps s n) level ks (node_of s ks at (tag_at s at))) w in
      from_found level ks at (view s at) refl (judged_right ks at (tag_at s at) r.right)
      (node_found (expression_n names ps s n) (found_fuel n) level ks (node_of s ks at (tag_at s at)) r.reads)

  pub expression_found : (level : ℕ) (ks : List Kind) (at : ℕ) {e : Expr} {next : ℕ} → expression names ps level ks s at ≡ read e next → Found level ks at e next
  unfolding expression
  expression_found level ks at {e} {next} w = found_fuel (length s) level ks at e next w
