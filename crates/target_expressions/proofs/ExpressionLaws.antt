-- The expression at an offset is what the node there makes of what stands behind it.
use Rattle.target_slots.specs.declared.slots.Kind.{Kind}
use Rattle.parsing.specs.declared.reason.Reason.TheVariants.{WrongLength}
use Prim.Native.Nat.{ℕ, zero, suc, ◌+◌, ◌≤◌, ◌<◌}
use Rattle.std.proofs.Math.Path.{◌≡◌, refl, sym, ap}
use Rattle.std.proofs.Common.{◌∙◌, arith}
use Rattle.std.specs.Prelude.{Bool, cond, List, [], leb, eqb, length}
use Rattle.std.proofs.Math.Bool.{true, false}
use Rattle.semantics.specs.Code.{Expr}
use Rattle.parsing.specs.Parser.{refusal, Parsed, read, refuse, and_then}
use Rattle.parsing.specs.Fields.{cut}
use Rattle.target_tags.specs.declared.tag.Tag.{Tag}
use Rattle.target_tags.specs.declared.tag.Tag.TheVariants.{Refused}
use Rattle.target_tags.specs.Tag.{pair_at, tag_at}
use Rattle.target_slots.specs.Slots.{bound}
use Rattle.target_names.specs.Names.{names_of, judged}
use Rattle.target_tags.specs.TagLaws.{tag_past}
use Rattle.target_tags.specs.ViewLaws.{View, is_constant, is_copy, is_difference, is_jump, is_resume, is_handle, is_branch, is_continuation, is_continuation_with_handler, is_difference_or_raise, is_refused, view, seen}
use Rattle.target_parts.specs.Parts.{pair, measured, sized, level_verdict}
use Rattle.target_expressions.specs.Expressions.{Reading, nested, before, Behind, ends, goes_on, goes_on_bound, part, sized_part, Node, found, missing, node_of, read_behind, read_node, after, node, expression_n, expression}

-- A node's own fields are inside the file.
pub record Fields (s : List ℕ) (at next : ℕ) : Type 0 where
  pub here : at < length s
  pub forward : at < next
  pub inside : next ≤ length s

abbrev pub NodeIn : List ℕ → ℕ → Node → Type 0
NodeIn s at (found next b) = Fields s at next
NodeIn s at (missing r) = Unit {0}

module _ (s : List ℕ) (at : ℕ) where
  ending : {next : ℕ} → at < next → next ≤ length s → Fields s at next
  ending h i = record { here = omega arith; forward = h; inside = i }

  pub node_in : (ks : List Kind) {t : Tag} → View s at t → NodeIn s at (node_of s ks at t)
  node_in ks (is_constant e h) = ending (omega arith) h
  node_in ks (is_copy e h) = ending (omega arith) h
  node_in ks (is_difference e h) = ending (omega arith) h
  node_in ks (is_jump e h) = ending (omega arith) h
  node_in ks (is_resume e h) = ending (omega arith) h
  node_in ks (is_handle e h) = ending (omega arith) h
  node_in ks (is_branch e h) = ending (omega arith) h
  node_in ks (is_continuation e h) = ending (omega arith) h
  node_in ks (is_continuation_with_handler e h) = ending (omega arith) h
  node_in ks (is_difference_or_raise e h) = ending (omega arith) h
  node_in ks (is_refused r) = tt

  pub node_fields : (t : Tag) → t ≡ tag_at s at → NodeIn s at (node_of s [] at t)
  node_fields t is = node_in [] (seen s at t is)

-- What follows a part begins where the part's length says.
pub through : (place at n : ℕ) (K L : Expr → ℕ → Parsed Expr) {x y : Parsed Expr} → x ≡ y → ((e : Expr) → K e (at + n) ≡ L e (at + n))
    → and_then (measured place at n x) K ≡ and_then (measured place at n y) L
through place at n K L {x} {y} e f = ap (λ z. and_then (measured place at n z) K) e ∙ go y
  where
    test : (e : Expr) (t : Bool) → and_then (cond t (read e (at + n)) (refuse (refusal WrongLength place))) K ≡ and_then (cond t (read e (at + n)) (refuse (refusal WrongLength place))) L
    test e true = f e
    test e false = refl

    go : (z : Parsed Expr) → and_then (measured place at n z) K ≡ and_then (measured place at n z) L
    go (read e next) = test e (eqb next (at + n))
    go (refuse r) = refl

module _ (s : List ℕ) where
  -- Two ways to read parts that agree behind an offset.
  Agree : ℕ → Reading → Reading → Type 0
  Agree at k l = (level : ℕ) (ks : List Kind) (m : ℕ) → at < m → k level ks m ≡ l level ks m

  module _ (at : ℕ) (k l : Reading) (same : Agree at k l) where
    nested_same : (level : ℕ) (ks : List Kind) (m : ℕ) → at < m → nested s k level ks m ≡ nested s l level ks m
    unfolding Agree
    nested_same level ks m h = ap (after (level_verdict s level m)) (same (level + 1) ks m h)

    sized_same : (level : ℕ) (ks : List Kind) (m : ℕ) (K L : Expr → ℕ → Parsed Expr) → at < m → ((e : Expr) (i : ℕ) → at < i → K e i ≡ L e i)
        → and_then (sized (λ s' m₁. nested s k level ks m₁) s m) K ≡ and_then (sized (λ s' m₁. nested s l level ks m₁) s m) L
    unfolding pair
    sized_same level ks m K L h f = go (leb (m + 2) (length s))
      where
        go : (t : Bool)
            → and_then (and_then (cond t (read (pair_at s m) (m + 2)) (refuse (cut s))) (λ n i. measured m i n (nested s k level ks i))) K
            ≡ and_then (and_then (cond t (read (pair_at s m) (m + 2)) (refuse (cut s))) (λ n i. measured m i n (nested s l level ks i))) L
        go true = through m (m + 2) (pair_at s m) K L (nested_same level ks (m + 2) (omega arith)) (λ e. f e (m + 2 + pair_at s m) (omega arith))
        go false = refl

    behind_same : (level : ℕ) (ks : List Kind) (m : ℕ) → at < m → (b : Behind) → read_behind s k level ks m b ≡ read_behind s l level ks m b
    unfolding Agree
    behind_same level ks m h (ends e) = refl
    behind_same level ks m h (goes_on f) = ap (before f) (same level ks m h)
    behind_same level ks m h (goes_on_bound x f) = ap (before f) (same level (bound ks x Kind.Whole) m h)
    behind_same level ks m h (part place n kinds f) =
        through place m n (λ e i. read_behind s k level ks i (f e)) (λ e i. read_behind s l level ks i (f e)) (nested_same level kinds m h)
        (λ e. behind_same level ks (m + n) (omega arith) (f e))
    behind_same level ks m h (sized_part kinds f) =
        sized_same level kinds m (λ e i. read_behind s k level ks i (f e)) (λ e i. read_behind s l level ks i (f e)) h
        (λ e i lt. behind_same level ks i lt (f e))

    node_same : (level : ℕ) (ks : List Kind) (N : Node) → NodeIn s at N → read_node s k level ks N ≡ read_node s l level ks N
    node_same level ks (found m b) i = behind_same level ks m i.forward b
    node_same level ks (missing r) i = refl

module _ (names : Bool) (ps s : List ℕ) where
  past_end : (inner : Reading) (level : ℕ) (ks : List Kind) (at : ℕ) → length s ≤ at → node names ps s inner level ks at ≡ refuse (cut s)
  unfolding judged names_of
  past_end inner level ks at h =
      ap (λ t. after (judged names ps ks s at t) (read_node s inner level ks (node_of s ks at t))) (sym (tag_past s at h)) ∙ go names
    where
      go : (b : Bool) → ◌≡◌ {A = Parsed Expr} (after (judged b ps ks s at (Refused (cut s))) (refuse (cut s))) (refuse (cut s))
      go true = refl
      go false = refl

  more_fuel : (n : ℕ) (level : ℕ) (ks : List Kind) (at : ℕ) → length s ≤ n + at → expression_n names ps s n level ks at ≡ expression_n names ps s (suc n) level ks at
  unfolding Agree
  more_fuel zero level ks at h = sym (past_end (expression_n names ps s zero) level ks at (omega arith))
  more_fuel (suc n) level ks at h =
      ap (after (judged names ps ks s at (tag_at s at)))
      (node_same s at (expression_n names ps s n) (expression_n names ps s (suc n)) (λ l k m lt. more_fuel n l k m (omega arith)) level ks (node_of s ks at (tag_at s at)) (node_in s at ks (view s at)))

  pub expression_law : (level : ℕ) (ks : List Kind) (at : ℕ)
      → expression names ps level ks s at ≡ node names ps s (λ l k m. expression names ps l k s m) level ks at
  unfolding expression
  expression_law level ks at = more_fuel (length s) level ks at (omega arith)
