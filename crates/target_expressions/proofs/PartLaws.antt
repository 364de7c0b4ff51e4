-- Parts of an expression that were read: what was read of each, and that it ends inside the file.
use Rattle.target_slots.specs.declared.slots.Kind.{Kind}
use Rattle.parsing.specs.declared.reason.Reason.TheVariants.{WrongLength}
use Prim.Native.Nat.{ℕ, zero, suc, ◌+◌, ◌≤◌, ◌<◌}
use Rattle.std.specs.Prelude.{◌≡◌, refl, Bool, true, false, cond, List, leb, eqb, length}
use Rattle.std.proofs.Common.{sym, ap, eqb-true, leb-true}
use native.Mathlib.Omega.{arith}
use Rattle.semantics.specs.Code.{Expr}
use Rattle.parsing.specs.Parser.{refusal, Parsed, read, refuse, Parser, and_then, Verdict, accepted, refused}
use Rattle.parsing.specs.Fields.{cut}
use Rattle.parsing.specs.ParserLaws.{sequence}
use Rattle.target_tags.specs.Tag.{pair_at, tag_at}
use Rattle.target_names.specs.Names.{judged}
use Rattle.target_tags.specs.ViewLaws.{view}
use Rattle.target_parts.specs.Parts.{pair, measured, sized, level_verdict}
use Rattle.target_parts.specs.PartsLaws.{level_read}
use Rattle.target_expressions.specs.Expressions.{Reading, nested, before, Behind, ends, goes_on, goes_on_bound, part, sized_part, Node, found, missing, node_of, read_behind, read_node, after, expression_n, expression}
use Rattle.target_expressions.proofs.ExpressionLaws.{NodeIn, node_in}

pub impossible : {A : Type 0} → ◌≡◌ {A = ℕ} 0 1 → A
impossible o = absurd (omega arith)

pub record Before (t : Expr → Expr) (x : Parsed Expr) (e : Expr) (next : ℕ) : Type 0 where
  pub rest : Expr
  pub reads : x ≡ read rest next
  pub is : t rest ≡ e

pub before_read : (t : Expr → Expr) (x : Parsed Expr) {e : Expr} {next : ℕ} → before t x ≡ read e next → Before t x e next
before_read t (read r m) w = record { rest = r; reads = ap (read r) (cc); is = cc }
before_read t (refuse r) w = impossible (cc)

pub record After-read {A : Type 0} (c : Verdict) (x : Parsed A) (a : A) (next : ℕ) : Type 0 where
  pub right : c ≡ accepted
  pub reads : x ≡ read a next

pub after_read : {A : Type 0} (c : Verdict) (x : Parsed A) {a : A} {next : ℕ} → after c x ≡ read a next → After-read c x a next
after_read accepted x w = record { right = refl; reads = w }
after_read (refused n p) x w = impossible (cc)

-- A part that fills its length.
pub record Measured (at n : ℕ) (x : Parsed Expr) (e : Expr) (next : ℕ) : Type 0 where
  pub reads : x ≡ read e next
  pub fills : next ≡ at + n

pub measured_read : (place at n : ℕ) (x : Parsed Expr) {e : Expr} {next : ℕ} → measured place at n x ≡ read e next → Measured at n x e next
measured_read place at n (read e' m) {e} {next} w = go (eqb m (at + n)) refl w
  where
    go : (t : Bool) → eqb m (at + n) ≡ t → cond t (read e' (at + n)) (refuse (refusal WrongLength place)) ≡ read e next → Measured at n (read e' m) e next
    go true q v =
        let r : m ≡ at + n = eqb-true m (at + n) q in
        let f : at + n ≡ next = cc in
        let g : e' ≡ e = cc in
        record { reads = rw (g, r, f); fills = sym f }
    go false q v = impossible (cc)
measured_read place at n (refuse r) w = impossible (cc)

-- A part one level deeper.
pub record Nested (s : List ℕ) (k : Reading) (level : ℕ) (ks : List Kind) (at : ℕ) (e : Expr) (next : ℕ) : Type 0 where
  pub inside : at < length s
  pub shallow : level < 16
  pub reads : k (level + 1) ks at ≡ read e next

pub nested_read : (s : List ℕ) (k : Reading) (level : ℕ) (ks : List Kind) (at : ℕ) {e : Expr} {next : ℕ} → nested s k level ks at ≡ read e next → Nested s k level ks at e next
nested_read s k level ks at w =
    let a = after_read (level_verdict s level at) (k (level + 1) ks at) w in
    let l = level_read s level at a.right in
    record { inside = l.0; shallow = l.1; reads = a.reads }

-- A length and its part.
pub record Sized (p : Parser Expr) (s : List ℕ) (at : ℕ) (e : Expr) (next : ℕ) : Type 0 where
  pub inside : at + 2 ≤ length s
  pub reads : p s (at + 2) ≡ read e next
  pub fills : next ≡ at + 2 + pair_at s at

pub sized_read : (p : Parser Expr) (s : List ℕ) (at : ℕ) {e : Expr} {next : ℕ} → sized p s at ≡ read e next → Sized p s at e next
unfolding pair
sized_read p s at {e} {next} w = go (leb (at + 2) (length s)) refl w
  where
    go : (t : Bool) → leb (at + 2) (length s) ≡ t
        → and_then (cond t (read (pair_at s at) (at + 2)) (refuse (cut s))) (λ n m. measured at m n (p s m)) ≡ read e next → Sized p s at e next
    go true q v =
        let m = measured_read at (at + 2) (pair_at s at) (p s (at + 2)) v in
        record { inside = leb-true (at + 2) (length s) q; reads = m.reads; fills = m.fills }
    go false q v = impossible (cc)

-- An expression that was read ends inside the file.
module _ (names : Bool) (ps s : List ℕ) where
  Inside : Reading → Type 0
  Inside k = (level : ℕ) (ks : List Kind) (at : ℕ) (e : Expr) (next : ℕ) → k level ks at ≡ read e next → next ≤ length s

  module _ (k : Reading) (ih : Inside k) (level : ℕ) (ks : List Kind) where
    behind_inside : (m : ℕ) → m ≤ length s → (b : Behind) {e : Expr} {next : ℕ} → read_behind s k level ks m b ≡ read e next → next ≤ length s
    unfolding Inside
    behind_inside m h (ends e) {next = next} w = let q : m ≡ next = cc in omega arith
    behind_inside m h (goes_on f) w = ih level ks m _ _ (before_read f (k level ks m) w).reads
    behind_inside m h (goes_on_bound x f) w = ih level _ m _ _ (before_read f (k level _ m) w).reads
    behind_inside m h (part place n kinds f) w =
        let b = sequence (measured place m n (nested s k level kinds m)) (λ e i. read_behind s k level ks i (f e)) w in
        let p = nested_read s k level kinds m (measured_read place m n (nested s k level kinds m) b.reads).reads in
        behind_inside b.middle (ih (level + 1) kinds m _ _ p.reads) (f b.first) b.follows
    behind_inside m h (sized_part kinds f) w =
        let b = sequence (sized (λ s' i. nested s k level kinds i) s m) (λ e i. read_behind s k level ks i (f e)) w in
        let p = nested_read s k level kinds (m + 2) (sized_read (λ s' i. nested s k level kinds i) s m b.reads).reads in
        behind_inside b.middle (ih (level + 1) kinds (m + 2) _ _ p.reads) (f b.first) b.follows

    node_inside : (at : ℕ) (N : Node) → NodeIn s at N → {e : Expr} {next : ℕ} → read_node s k level ks N ≡ read e next → next ≤ length s
    node_inside at (found m b) i w = behind_inside m i.inside b w
    node_inside at (missing r) i w = impossible (cc)

  inside_fuel : (n level : ℕ) (ks : List Kind) (at : ℕ) {e : Expr} {next : ℕ} → expression_n names ps s n level ks at ≡ read e next → next ≤ length s
  unfolding Inside
  inside_fuel zero level ks at w = impossible (cc)
  inside_fuel (suc n) level ks at w =
      node_inside (expression_n names ps s n) (λ l k m e i. inside_fuel n l k m) level ks at (node_of s ks at (tag_at s at)) (node_in s at ks (view s at))
      (after_read (judged names ps ks s at (tag_at s at)) (read_node s (expression_n names ps s n) level ks (node_of s ks at (tag_at s at))) w).reads

  pub expression_inside : (level : ℕ) (ks : List Kind) (at : ℕ) {e : Expr} {next : ℕ} → expression names ps level ks s at ≡ read e next → next ≤ length s
  unfolding expression
  expression_inside level ks at w = inside_fuel (length s) level ks at w
