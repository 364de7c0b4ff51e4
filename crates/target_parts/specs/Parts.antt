-- The parts of a node (document 01, 'The translated file'): their lengths and levels, and what follows them.
use Rattle.parsing.specs.declared.Refusal.{Refusal}
use Rattle.std.specs.Prelude.{ℕ, ◌+◌, cond, List, leb, ltb, eqb, length, Err, Ok, Result}
use Rattle.semantics.specs.Code.{Expr}
use Rattle.parsing.specs.declared.reason.Reason.TheVariants.{EndsEarly, OutOfRange, WrongLength}
use Rattle.parsing.specs.Parser.{refusal, Parsed, read, refuse, Parser, and_then, Verdict, or_else, refused_unless}
use Rattle.parsing.specs.Fields.{cut}
use Rattle.target_tags.specs.declared.tag.Tag.{Tag}
use Rattle.target_tags.specs.declared.tag.Tag.TheVariants.{Constant, Copy, Difference, Jump, Resume, Handle, Branch, Continuation, ContinuationWithHandler, DifferenceOrRaise, Refused}
use Rattle.target_tags.specs.Tag.{pair_at}
use Rattle.target_parts.specs.declared.parts.After.{After}
use Rattle.target_parts.specs.declared.parts.After.TheVariants.{Onward, Bound, Ended, Halted}

-- A field of 16 bits, once it is whole.
unfoldable pub pair : Parser ℕ
pair s at = cond (leb (at + 2) (length s)) (read (pair_at s at) (at + 2)) (refuse (cut s))

-- "12 length unlike the part read", at the length: a part that begins at an offset and is to be n bytes long.
abbrev pub measured : ℕ → ℕ → ℕ → Parsed Expr → Parsed Expr
measured place at n (read e next) = cond (eqb next (at + n)) (read e (at + n)) (refuse (refusal WrongLength place))
measured place at n (refuse r) = refuse r

-- A length of 16 bits and its part, "a length being compared when its part is read".
abbrev pub sized : Parser Expr → Parser Expr
sized p s at = and_then (pair s at) (λ n m. measured at m n (p s m))

-- Whether a part may begin at an offset, one level deeper: "5 .. a 17th level (at its first tag; if that byte is missing 3, else 5 before 6)."
unfoldable pub level_verdict : List ℕ → ℕ → ℕ → Verdict
level_verdict s level at = or_else (refused_unless (ltb at (length s)) EndsEarly (length s)) (refused_unless (ltb level 16) OutOfRange at)

-- ── What the functions answer ───────────────────────────────────────────────────────────────────

unfoldable pub measured_end : ℕ → ℕ → ℕ → Result ℕ Refusal → Result ℕ Refusal
measured_end place at n (Ok next) = cond (eqb next (at + n)) (Ok next) (Err (refusal WrongLength place))
measured_end place at n (Err r) = Err r

-- The end of a node's own fields.
unfoldable pub fields_end : Tag → Result ℕ Refusal
fields_end (Constant x i next) = Ok next
fields_end (Copy x y next) = Ok next
fields_end (Difference x y z next) = Ok next
fields_end (Jump g k h n next) = Ok next
fields_end (Resume k y next) = Ok next
fields_end (Handle h y next) = Ok next
fields_end (Branch y z n next) = Ok next
fields_end (Continuation x p n next) = Ok next
fields_end (ContinuationWithHandler x p t q n next) = Ok next
fields_end (DifferenceOrRaise x y z n next) = Ok next
fields_end (Refused r) = Err r

-- What follows a node whose nested parts end at an offset: the node binds a slot, ends the expression, or neither.
unfoldable pub follows_at : Tag → ℕ → After
follows_at (Constant x i next) m = Bound m x
follows_at (Copy x y next) m = Bound m x
follows_at (Difference x y z next) m = Bound m x
follows_at (Jump g k h n next) m = Ended m
follows_at (Resume k y next) m = Ended m
follows_at (Handle h y next) m = Ended m
follows_at (Branch y z n next) m = Onward m
follows_at (Continuation x p n next) m = Bound m p
follows_at (ContinuationWithHandler x p t q n next) m = Bound m p
follows_at (DifferenceOrRaise x y z n next) m = Bound m x
follows_at (Refused r) m = Halted r

abbrev pub follows_of : Tag → Result ℕ Refusal → After
follows_of t (Ok m) = follows_at t m
follows_of t (Err r) = Halted r
