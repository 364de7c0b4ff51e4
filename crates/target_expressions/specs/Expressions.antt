-- The reading of an expression (document 01, 'The translated file'; document 02, Slips 2 and 7): which expression the bytes at an offset are, or the first refusal.
use Rattle.target_slots.specs.declared.slots.Kind.{Kind}
use Rattle.std.specs.Prelude.{ℕ, zero, suc, ◌+◌, Bool, List, length, take, drop}
use Rattle.semantics.specs.Code.{Slot, Expr, let_constant, let_slot, let_difference, jump, resume, handle, if_at_most, let_continuation, let_continuation_with_handler, let_difference_or_raise}
use Rattle.parsing.specs.declared.Refusal.{Refusal}
use Rattle.parsing.specs.Parser.{refusal, Parsed, read, refuse, Parser, and_then, Verdict, accepted, refused}
use Rattle.parsing.specs.Fields.{cut, version_of}
use Rattle.target_tags.specs.declared.tag.Tag.{Tag}
use Rattle.target_tags.specs.declared.tag.Tag.TheVariants.{Constant, Copy, Difference, Jump, Resume, Handle, Branch, Continuation, ContinuationWithHandler, DifferenceOrRaise, Refused}
use Rattle.target_tags.specs.Tag.{number_width, slot_in, tag_at}
use Rattle.target_slots.specs.Slots.{bound, bound_number}
use Rattle.target_names.specs.Names.{judged}
use Rattle.target_parts.specs.Parts.{measured, sized, level_verdict}

-- An expression at an offset of the file, in a part at a level, where the slots have these kinds.
abbrev pub Reading : Type 0
Reading = (level : ℕ) (kinds : List Kind) (at : ℕ) → Parsed Expr

-- What is read once a verdict accepts.
abbrev pub after : {A : Type 0} → Verdict → Parsed A → Parsed A
after accepted x = x
after (refused reason place) x = refuse (refusal reason place)

-- A part one level deeper: a then-part, a rest of tags 8 and 9, a handler body, a raise part.
abbrev pub nested : List ℕ → Reading → Reading
nested s inner level ks at = after (level_verdict s level at) (inner (level + 1) ks at)

abbrev pub before : (Expr → Expr) → Parsed Expr → Parsed Expr
before t (read e next) = read (t e) next
before t (refuse r) = refuse r

-- The slots of a jump's n values, from an offset on.
abbrev pub slots_at : List ℕ → ℕ → ℕ → List Slot
slots_at s at n = take n (drop at s)

-- What stands behind a node's own fields, and the expression that the node makes of it.
pub data Behind : Type 0 where
  ends : Expr → Behind  -- nothing
  goes_on : (Expr → Expr) → Behind  -- an expression, which sees the same slots
  goes_on_bound : Slot → (Expr → Expr) → Behind  -- an expression, which sees this slot bound to a whole number too
  part : (place n : ℕ) → List Kind → (Expr → Behind) → Behind  -- a part of n bytes, whose length stands at a place and which sees slots of these kinds; then more
  sized_part : List Kind → (Expr → Behind) → Behind  -- a length and its part, which sees slots of these kinds; then more

-- A node: the offset past its own fields and what stands behind them.
pub data Node : Type 0 where
  found : ℕ → Behind → Node
  missing : Refusal → Node

-- "Bodies by tag." "A made body sees the slots bound before it, not its own": its parameter is bound there; a rest sees the new slots.
-- A raise part "sees the slots bound before".
abbrev pub node_of : List ℕ → List Kind → ℕ → Tag → Node
node_of s ks at (Constant x i next) = found next (goes_on_bound x (let_constant x i))
node_of s ks at (Copy x y next) = found next (goes_on_bound x (let_slot x y))
node_of s ks at (Difference x y z next) = found next (goes_on_bound x (let_difference x y z))
node_of s ks at (Jump g k h n next) = found next (ends (jump g k h (slots_at s (at + 6) n)))
node_of s ks at (Resume k y next) = found next (ends (resume k y))
node_of s ks at (Handle h y next) = found next (ends (handle h (slot_in y)))
node_of s ks at (Branch y z n next) = found next (part (at + 3) n ks (λ e. goes_on (if_at_most y z e)))
node_of s ks at (Continuation x p n next) = found next (part (at + 3) n (bound ks x Kind.Continuation) (λ e. goes_on_bound p (let_continuation x p e)))
node_of s ks at (ContinuationWithHandler x p t q n next) =
    found next
    (part (at + 4 + number_width (version_of s)) n (bound (bound ks x Kind.Continuation) t Kind.Handler)
    (λ e. sized_part (bound_number ks q) (λ h. goes_on_bound p (let_continuation_with_handler x p t (slot_in q) e h))))
node_of s ks at (DifferenceOrRaise x y z n next) = found next (part (at + 4) n ks (λ r. goes_on_bound x (let_difference_or_raise x y z r)))
node_of s ks at (Refused r) = missing r

-- "An expression holds bodies, and a body is again an expression": `inner` reads what stands behind.
abbrev pub read_behind : List ℕ → Reading → ℕ → List Kind → ℕ → Behind → Parsed Expr
read_behind s inner level ks at (ends e) = read e at
read_behind s inner level ks at (goes_on f) = before f (inner level ks at)
read_behind s inner level ks at (goes_on_bound x f) = before f (inner level (bound ks x Kind.Whole) at)
read_behind s inner level ks at (part place n kinds f) =
    and_then (measured place at n (nested s inner level kinds at)) (λ e m. read_behind s inner level ks m (f e))
read_behind s inner level ks at (sized_part kinds f) =
    and_then (sized (λ s' m. nested s inner level kinds m) s at) (λ e m. read_behind s inner level ks m (f e))

abbrev pub read_node : List ℕ → Reading → ℕ → List Kind → Node → Parsed Expr
read_node s inner level ks (found at b) = read_behind s inner level ks at b
read_node s inner level ks (missing r) = refuse r

-- The node at an offset: its names, if they are judged, and then its parts.
abbrev pub node : Bool → List ℕ → List ℕ → Reading → Reading
node names ps s inner level ks at = after (judged names ps ks s at (tag_at s at)) (read_node s inner level ks (node_of s ks at (tag_at s at)))

-- The fuel `n` never runs out where it is the file's length (`expression_law` in ExpressionLaws).
abbrev pub expression_n : Bool → List ℕ → List ℕ → ℕ → Reading
expression_n names ps s zero level ks at = refuse (cut s)
expression_n names ps s (suc n) level ks at = node names ps s (expression_n names ps s n) level ks at

-- The expression at an offset. `names` says whether names are judged, `ps` has the functions' numbers of parameters.
unfoldable pub expression : Bool → List ℕ → ℕ → List Kind → Parser Expr
expression names ps level ks s at = expression_n names ps s (length s) level ks at
