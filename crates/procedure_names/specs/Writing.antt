-- The writing of a program as bytes (document 01, 'The procedure file'; document 02, Slip 7 for version 2).
use Rattle.std.specs.Prelude.{ℕ, ◌≤◌, ◌≡◌, ◌≢◌, cond, List, [], ◌∷◌, ◌++◌, eqb, length}
use Rattle.std.proofs.Math.Option.{Option, none, some}
use Rattle.std.specs.Int.{w32}
use Rattle.std.proofs.Common.{SFits}
use Rattle.parsing.specs.Parser.{joined}
use Rattle.parsing.specs.Fields.{IsVersion}
use Rattle.parsing.specs.Bytes.{value_bytes}
use Rattle.semantics.specs.Program.{Variable, Block, constant, copy, difference, call, goto, return, branch, raise, Labelled, Function, Program, program_version}
use Rattle.semantics.specs.WellFormed.{All}
use Rattle.procedure_operations.specs.Numbers.{max_functions}

abbrev pub block_bytes : Block → List ℕ
block_bytes (constant x i b) = 1 ∷ x ∷ (value_bytes i ++ block_bytes b)
block_bytes (copy x y b) = 2 ∷ x ∷ y ∷ block_bytes b
block_bytes (difference x y z b) = 3 ∷ x ∷ y ∷ z ∷ block_bytes b
block_bytes (call x g ys b) = 4 ∷ x ∷ g ∷ length ys ∷ (ys ++ block_bytes b)
block_bytes (goto l) = 5 ∷ l ∷ []
block_bytes (return x) = 6 ∷ x ∷ []
block_bytes (branch y z l m) = 7 ∷ y ∷ z ∷ l ∷ m ∷ []
block_bytes (raise none) = 8 ∷ []
block_bytes (raise (some x)) = 9 ∷ x ∷ []

-- "Version 2 procedures have, after each handler byte, a receiving variable (255 for none)."
abbrev pub receiver_byte : Option Variable → ℕ
receiver_byte none = 255
receiver_byte (some x) = x

abbrev pub receiver_bytes : ℕ → Option Variable → List ℕ
receiver_bytes version r = cond (eqb version 2) (receiver_byte r ∷ []) []

abbrev pub labelled_bytes : ℕ → Labelled → List ℕ
labelled_bytes version B = B.handler ∷ (receiver_bytes version B.receiver ++ block_bytes B.block)

abbrev pub function_bytes : Function → List ℕ
function_bytes F = F.params ∷ F.locals ∷ length F.blocks ∷ (block_bytes F.entry ++ joined (labelled_bytes F.version) F.blocks)

unfoldable pub writing : Program → List ℕ
writing P = 83 ∷ 80 ∷ 70 ∷ program_version P ∷ 0 ∷ length P ∷ joined function_bytes P

-- "Values are signed 32-bit." Operation 9 is of version 2.
abbrev pub ValuesFit : ℕ → Block → Type 0
ValuesFit version (constant x i b) = SFits w32 i × ValuesFit version b
ValuesFit version (copy x y b) = ValuesFit version b
ValuesFit version (difference x y z b) = ValuesFit version b
ValuesFit version (call x g ys b) = ValuesFit version b
ValuesFit version (goto l) = Unit {0}
ValuesFit version (return x) = Unit {0}
ValuesFit version (branch y z l m) = Unit {0}
ValuesFit version (raise none) = Unit {0}
ValuesFit version (raise (some x)) = version ≡ 2

-- A receiver is of version 2, and 255 stands for none.
abbrev pub ReceiverFits : ℕ → Option Variable → Type 0
ReceiverFits version none = Unit {0}
ReceiverFits version (some x) = (version ≡ 2) × (x ≢ 255)

abbrev pub LabelledFits : ℕ → Labelled → Type 0
LabelledFits version B = ReceiverFits version B.receiver × ValuesFit version B.block

-- The version of a function, and the ranges of its counts.
pub record FunctionInRange (version : ℕ) (F : Function) : Type 0 where
  pub version_is : F.version ≡ version
  pub params : F.params ≤ 8
  pub locals : F.locals ≤ 24
  pub blocks : length F.blocks ≤ 63
  pub entry_values : ValuesFit version F.entry
  pub block_values : All (LabelledFits version) F.blocks

-- The version and the ranges of a program.
pub record InRange (P : Program) : Type 0 where
  pub version : IsVersion (program_version P)
  pub some : 1 ≤ length P
  pub most : length P ≤ max_functions
  pub functions : All (FunctionInRange (program_version P)) P
