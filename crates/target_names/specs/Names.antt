-- The names in a node, in reading order (document 01, refusals 9, 10, 11 and 13; document 02, Slip 3, 19 to 21; Slip 7).
use Rattle.target_tags.specs.NumberSlot.{NumberSlot}
use Rattle.std.specs.Prelude.{ℕ, zero, suc, ◌+◌, Bool, cond, List, ltb, eqb, length, get_or, None, Some}
use Rattle.parsing.specs.declared.reason.Reason.TheVariants.{MissingFunction, CalleeArity}
use Rattle.parsing.specs.Parser.{Verdict, accepted, or_else, refused_unless}
use Rattle.parsing.specs.Fields.{version_of}
use Rattle.target_tags.specs.declared.tag.Tag.{Tag}
use Rattle.target_tags.specs.declared.tag.Tag.TheVariants.{Constant, Copy, Difference, Jump, Resume, Handle, Branch, Continuation, ContinuationWithHandler, DifferenceOrRaise, Refused}
use Rattle.target_tags.specs.Tag.{slots_in}
use Rattle.target_slots.specs.declared.slots.Kind.{Kind}
use Rattle.target_slots.specs.Slots.{binds, reads, differ}

-- "9 no such function", where the functions have these numbers of parameters.
unfoldable pub function : List ℕ → ℕ → ℕ → Verdict
function ps place g = refused_unless (ltb g (length ps)) MissingFunction place

-- "10 argument count unlike the callee's (at the count)."
unfoldable pub arity : List ℕ → ℕ → ℕ → ℕ → Verdict
arity ps place g n = refused_unless (eqb n (get_or ps g 0)) CalleeArity place

-- Below, m is the number of slots.

-- The n values of a jump, from an offset on.
abbrev pub values : ℕ → List Kind → List ℕ → ℕ → ℕ → Verdict
values m ks s at zero = accepted
values m ks s at (suc n) = or_else (reads m ks Kind.Whole at (get_or s at 0)) (values m ks s (at + 1) n)

-- Slip 7: the value slot of tag 6 is read as a whole number, the handler parameter slot of tag 9 is bound, where there is one.
unfoldable pub reads_number : ℕ → List Kind → ℕ → NumberSlot → Verdict
reads_number m ks place (Some y) = reads m ks Kind.Whole place y
reads_number m ks place None = accepted

unfoldable pub binds_number : ℕ → ℕ → NumberSlot → Verdict
binds_number m place (Some q) = binds m place q
binds_number m place None = accepted

-- The names of tags 3 and 10, in reading order.
abbrev pub difference_names : ℕ → List Kind → ℕ → ℕ → ℕ → ℕ → Verdict
difference_names m ks at x y z = or_else (binds m (at + 1) x) (or_else (reads m ks Kind.Whole (at + 2) y) (reads m ks Kind.Whole (at + 3) z))

-- The names of a jump before its values, in reading order.
unfoldable pub jump_names : ℕ → List ℕ → List Kind → ℕ → ℕ → ℕ → ℕ → ℕ → Verdict
jump_names m ps ks at g k h n =
    or_else (or_else (function ps (at + 1) g) (or_else (reads m ks Kind.Continuation (at + 3) k) (reads m ks Kind.Handler (at + 4) h))) (arity ps (at + 5) g n)

-- The names of tag 6, in reading order.
unfoldable pub handle_names : ℕ → List Kind → ℕ → ℕ → NumberSlot → Verdict
handle_names m ks at h y = or_else (reads m ks Kind.Handler (at + 1) h) (reads_number m ks (at + 2) y)

-- The names of tag 9, in reading order.
unfoldable pub continuation_with_handler_names : ℕ → ℕ → ℕ → ℕ → ℕ → NumberSlot → Verdict
continuation_with_handler_names m at x p t q =
    or_else (or_else (binds m (at + 1) x) (binds m (at + 2) p)) (or_else (or_else (binds m (at + 3) t) (differ (at + 3) x t)) (binds_number m (at + 4) q))

-- The names of the node that stands at an offset.
unfoldable pub names_of : ℕ → List ℕ → List Kind → List ℕ → ℕ → Tag → Verdict
names_of m ps ks s at (Constant x i next) = binds m (at + 1) x
names_of m ps ks s at (Copy x y next) = or_else (binds m (at + 1) x) (reads m ks Kind.Whole (at + 2) y)
names_of m ps ks s at (Difference x y z next) = difference_names m ks at x y z
names_of m ps ks s at (Jump g k h n next) = or_else (jump_names m ps ks at g k h n) (values m ks s (at + 6) n)
names_of m ps ks s at (Resume k y next) = or_else (reads m ks Kind.Continuation (at + 1) k) (reads m ks Kind.Whole (at + 2) y)
names_of m ps ks s at (Handle h y next) = handle_names m ks at h y
names_of m ps ks s at (Branch y z n next) = or_else (reads m ks Kind.Whole (at + 1) y) (reads m ks Kind.Whole (at + 2) z)
names_of m ps ks s at (Continuation x p n next) = or_else (binds m (at + 1) x) (binds m (at + 2) p)
names_of m ps ks s at (ContinuationWithHandler x p t q n next) = continuation_with_handler_names m at x p t q
names_of m ps ks s at (DifferenceOrRaise x y z n next) = difference_names m ks at x y z
names_of m ps ks s at (Refused r) = accepted

-- The names, if they are judged, with the slots of the file's version.
unfoldable pub judged : Bool → List ℕ → List Kind → List ℕ → ℕ → Tag → Verdict
judged names ps ks s at t = cond names (names_of (slots_in (version_of s)) ps ks s at t) accepted
