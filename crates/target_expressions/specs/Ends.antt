-- What the functions that read an expression answer: the offset past a part, what follows a node, or a refusal.
use Rattle.target_slots.specs.declared.slots.Kind.{Kind}
use Rattle.target_tags.specs.NumberSlot.{NumberSlot}
use Rattle.parsing.specs.declared.Refusal.{Refusal}
use Rattle.std.specs.Prelude.{ℕ, ◌+◌, Bool, List, Err, Ok, Result}
use Rattle.semantics.specs.Code.{Expr}
use Rattle.parsing.specs.Parser.{refusal, Parsed, read, refuse, past_of, Verdict, accepted, refused}
use Rattle.parsing.specs.Fields.{version_of}
use Rattle.target_tags.specs.declared.tag.Tag.{Tag}
use Rattle.target_tags.specs.declared.tag.Tag.TheVariants.{Constant, Copy, Difference, Jump, Resume, Handle, Branch, Continuation, ContinuationWithHandler, DifferenceOrRaise, Refused}
use Rattle.target_tags.specs.Tag.{number_width}
use Rattle.target_slots.specs.Slots.{bound, bound_number}
use Rattle.target_names.specs.Names.{judged}
use Rattle.target_parts.specs.declared.parts.After.{After}
use Rattle.target_parts.specs.declared.parts.After.TheVariants.{Onward, Bound, Ended, Halted}
use Rattle.target_parts.specs.Parts.{measured, sized}
use Rattle.target_expressions.specs.Expressions.{Reading, nested, Behind, ends, goes_on, goes_on_bound, part, sized_part, Node, found, missing, node_of, expression}

abbrev pub then_past : Result ℕ Refusal → (ℕ → Result ℕ Refusal) → Result ℕ Refusal
then_past (Ok next) k = k next
then_past (Err r) k = Err r

abbrev pub then_after : Parsed Expr → (Expr → ℕ → After) → After
then_after (read e next) k = k e next
then_after (refuse r) k = Halted r

abbrev pub after_of : Verdict → After → After
after_of accepted a = a
after_of (refused reason place) a = Halted (refusal reason place)

module _ (names : Bool) (ps s : List ℕ) where
  -- The expression at an offset of the file.
  abbrev pub inner : Reading
  inner level ks at = expression names ps level ks s at

  unfoldable pub part_end : ℕ → List Kind → ℕ → ℕ → ℕ → Result ℕ Refusal
  part_end level ks place at n = past_of (measured place at n (nested s inner level ks at))

  -- A handler body behind its length.
  unfoldable pub handler_end : ℕ → List Kind → ℕ → Result ℕ Refusal
  handler_end level ks at = past_of (sized (λ s' m. nested s inner level ks m) s at)

  unfoldable pub continuation_with_handler_end : ℕ → List Kind → ℕ → ℕ → ℕ → NumberSlot → ℕ → ℕ → Result ℕ Refusal
  continuation_with_handler_end level ks at x t q n next =
      then_past (part_end level (bound (bound ks x Kind.Continuation) t Kind.Handler) (at + 4 + number_width (version_of s)) next n)
      (λ m. handler_end level (bound_number ks q) m)

  -- The end of a node with its nested parts.
  unfoldable pub parts_end : ℕ → List Kind → ℕ → Tag → Result ℕ Refusal
  parts_end level ks at (Constant x i next) = Ok next
  parts_end level ks at (Copy x y next) = Ok next
  parts_end level ks at (Difference x y z next) = Ok next
  parts_end level ks at (Jump g k h n next) = Ok next
  parts_end level ks at (Resume k y next) = Ok next
  parts_end level ks at (Handle h y next) = Ok next
  parts_end level ks at (Branch y z n next) = part_end level ks (at + 3) next n
  parts_end level ks at (Continuation x p n next) = part_end level (bound ks x Kind.Continuation) (at + 3) next n
  parts_end level ks at (ContinuationWithHandler x p t q n next) = continuation_with_handler_end level ks at x t q n next
  parts_end level ks at (DifferenceOrRaise x y z n next) = part_end level ks (at + 4) next n
  parts_end level ks at (Refused r) = Err r

  -- The nested parts behind a node's own fields, and what follows them.
  abbrev pub behind_end : ℕ → ℕ → Behind → After
  behind_end level at (ends e) = Ended at
  behind_end level at (goes_on f) = Onward at
  behind_end level at (goes_on_bound x f) = Bound at x
  behind_end level at (part place n ks f) = then_after (measured place at n (nested s inner level ks at)) (λ e m. behind_end level m (f e))
  behind_end level at (sized_part ks f) = then_after (sized (λ s' m. nested s inner level ks m) s at) (λ e m. behind_end level m (f e))

  abbrev pub after_node : ℕ → Node → After
  after_node level (found at b) = behind_end level at b
  after_node level (missing r) = Halted r

  unfoldable pub node_end : ℕ → List Kind → ℕ → Tag → After
  node_end level ks at t = after_of (judged names ps ks s at t) (after_node level (node_of s ks at t))

  -- The body of a function behind its length.
  unfoldable pub body_end : List Kind → ℕ → Result ℕ Refusal
  body_end ks at = past_of (sized (expression names ps 0 ks) s at)
