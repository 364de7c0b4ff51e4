-- The writing of code as bytes (document 01, 'The translated file'; document 02, Slips 2 and 7).
use Rattle.std.specs.Prelude.{ℕ, ◌+◌, ◌≤◌, ◌<◌, ◌≡◌, List, [], ◌∷◌, ◌++◌, length, ℤ}
use Rattle.std.proofs.Math.Option.{Option, none, some}
use Rattle.std.specs.Int.{w32}
use Rattle.std.proofs.Common.{SFits}
use Rattle.semantics.specs.Code.{Slot, Expr, let_constant, let_slot, let_difference, jump, resume, handle, if_at_most, let_continuation, let_continuation_with_handler, let_difference_or_raise, Target, Code}
use Rattle.semantics.specs.Controller.{code_version}
use Rattle.semantics.specs.WellFormed.{All}
use Rattle.parsing.specs.Parser.{joined}
use Rattle.parsing.specs.Fields.{IsVersion}
use Rattle.parsing.specs.Bytes.{pair_bytes, value_bytes}
use Rattle.target_layout.specs.Layout.{max_functions}
use Rattle.target_tags.specs.Tag.{max_parameters, number_width}

-- The parts of an expression, in the order in which they are written.
pub data Parts : Type 0 where
  ends : List Slot → Parts  -- the slots of a jump, or none, and nothing more
  bytes : List ℕ → Parts → Parts  -- a tag and its fields; then the rest
  constant : ℤ → Parts → Parts  -- a constant; then the rest
  number : Option Slot → Parts → Parts  -- the slot of a number, if any; then the rest
  nested : Parts → Parts → Parts  -- a nested part behind its length of 16 bits; then the rest

-- "Bodies by tag."
abbrev pub parts_of : Expr → Parts
parts_of (let_constant x i e) = bytes (1 ∷ x ∷ []) (constant i (parts_of e))
parts_of (let_slot x y e) = bytes (2 ∷ x ∷ y ∷ []) (parts_of e)
parts_of (let_difference x y z e) = bytes (3 ∷ x ∷ y ∷ z ∷ []) (parts_of e)
parts_of (jump g k h ss) = bytes (4 ∷ (pair_bytes g ++ (k ∷ h ∷ length ss ∷ []))) (ends ss)
parts_of (resume k y) = bytes (5 ∷ k ∷ y ∷ []) (ends [])
parts_of (handle h y) = bytes (6 ∷ h ∷ []) (number y (ends []))
parts_of (if_at_most y z e₁ e₂) = bytes (7 ∷ y ∷ z ∷ []) (nested (parts_of e₁) (parts_of e₂))
parts_of (let_continuation x p e k) = bytes (8 ∷ x ∷ p ∷ []) (nested (parts_of e) (parts_of k))
parts_of (let_continuation_with_handler x p t q e h k) = bytes (9 ∷ x ∷ p ∷ t ∷ []) (number q (nested (parts_of e) (nested (parts_of h) (parts_of k))))
parts_of (let_difference_or_raise x y z r e) = bytes (10 ∷ x ∷ y ∷ z ∷ []) (nested (parts_of r) (parts_of e))

-- Slip 7: "Version 2 translations give tag 6 a value slot and tag 9 a handler parameter slot, each last of its tag's slots."
abbrev pub slot_bytes : Option Slot → List ℕ
slot_bytes none = []
slot_bytes (some y) = y ∷ []

abbrev pub slot_width : Option Slot → ℕ
slot_width y = length (slot_bytes y)

-- How many bytes parts take.
abbrev pub parts_size : Parts → ℕ
parts_size (ends ss) = length ss
parts_size (bytes w r) = length w + parts_size r
parts_size (constant i r) = 4 + parts_size r
parts_size (number y r) = slot_width y + parts_size r
parts_size (nested p r) = 2 + (parts_size p + parts_size r)

abbrev pub parts_bytes : Parts → List ℕ
parts_bytes (ends ss) = ss
parts_bytes (bytes w r) = w ++ parts_bytes r
parts_bytes (constant i r) = value_bytes i ++ parts_bytes r
parts_bytes (number y r) = slot_bytes y ++ parts_bytes r
parts_bytes (nested p r) = pair_bytes (parts_size p) ++ (parts_bytes p ++ parts_bytes r)

abbrev pub size : Expr → ℕ
size e = parts_size (parts_of e)

abbrev pub expr_bytes : Expr → List ℕ
expr_bytes e = parts_bytes (parts_of e)

-- "Each function: parameter count (0 to 32), body length (16 bits), body."
abbrev pub target_bytes : Target → List ℕ
target_bytes D = D.params ∷ (pair_bytes (size D.body) ++ expr_bytes D.body)

unfoldable pub writing : Code → List ℕ
writing Q = 83 ∷ 80 ∷ 67 ∷ code_version Q ∷ 0 ∷ (pair_bytes (length Q) ++ joined target_bytes Q)

-- "Values are signed 32-bit." The slot of a number is there exactly in version 2.
abbrev pub PartsFit : ℕ → Parts → Type 0
PartsFit version (ends ss) = Unit {0}
PartsFit version (bytes w r) = PartsFit version r
PartsFit version (constant i r) = SFits w32 i × PartsFit version r
PartsFit version (number y r) = (slot_width y ≡ number_width version) × PartsFit version r
PartsFit version (nested p r) = PartsFit version p × PartsFit version r

-- "then-parts, rests of tags 8 and 9 and handler bodies nest at most 16 levels inside a function's body": parts at this level.
-- A raise part "counts as a nested level".
abbrev pub PartsNest : ℕ → Parts → Type 0
PartsNest level (ends ss) = Unit {0}
PartsNest level (bytes w r) = PartsNest level r
PartsNest level (constant i r) = PartsNest level r
PartsNest level (number y r) = PartsNest level r
PartsNest level (nested p r) = (level < 16) × PartsNest (level + 1) p × PartsNest level r

abbrev pub FieldsFit : ℕ → Expr → Type 0
FieldsFit version e = PartsFit version (parts_of e)

abbrev pub Nests : ℕ → Expr → Type 0
Nests level e = PartsNest level (parts_of e)

-- The version of a function, and its ranges and levels.
pub record TargetInRange (version : ℕ) (D : Target) : Type 0 where
  pub version_is : D.version ≡ version
  pub params : D.params ≤ max_parameters
  pub fields : FieldsFit version D.body
  pub levels : Nests 0 D.body

-- The version, ranges and levels of code.
pub record InRange (Q : Code) : Type 0 where
  pub version : IsVersion (code_version Q)
  pub some : 1 ≤ length Q
  pub most : length Q ≤ max_functions
  pub targets : All (TargetInRange (code_version Q)) Q
