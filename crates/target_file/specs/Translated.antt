-- Translations as files: the programs whose translation this is said of, and the statement.
use Rattle.std.specs.Prelude.{ℕ, ◌≤◌, ◌≡◌, ◌↔◌, length}
use Rattle.std.proofs.Math.Option.{Option, none, some}
use Rattle.std.specs.Int.{w32}
use Rattle.std.proofs.Common.{SFits}
use Rattle.semantics.specs.Program.{Variable, Block, constant, copy, difference, call, goto, return, branch, raise, Labelled, Function, Program, program_version}
use Rattle.semantics.specs.WellFormed.{All, WellFormed}
use Rattle.semantics.specs.Translation.{translate}
use Rattle.parsing.specs.Parser.{accepted}
use Rattle.parsing.specs.Fields.{IsVersion}
use Rattle.target_tags.specs.Tag.{file_limit}
use Rattle.target_file.specs.Writing.{writing}
use Rattle.target_file.specs.Check.{check_of, code_of}

-- A variable that only version 2 may name: what operation 9 raises, and a receiver (document 02, Slip 7).
abbrev pub NamedInTwo : ℕ → Option Variable → Type 0
NamedInTwo version none = Unit {0}
NamedInTwo version (some x) = version ≡ 2

-- "Values are signed 32-bit."
abbrev pub BlockFits : ℕ → Block → Type 0
BlockFits version (constant x i b) = SFits w32 i × BlockFits version b
BlockFits version (copy x y b) = BlockFits version b
BlockFits version (difference x y z b) = BlockFits version b
BlockFits version (call x g ys b) = BlockFits version b
BlockFits version (goto l) = Unit {0}
BlockFits version (return x) = Unit {0}
BlockFits version (branch y z l m) = Unit {0}
BlockFits version (raise r) = NamedInTwo version r

abbrev pub LabelledBlockFits : ℕ → Labelled → Type 0
LabelledBlockFits version B = NamedInTwo version B.receiver × BlockFits version B.block

-- "parameter count (0 to 8), local count (0 to 24), labelled block count (0 to 63)"
pub record FunctionFits (version : ℕ) (F : Function) : Type 0 where
  pub version_is : F.version ≡ version
  pub params : F.params ≤ 8
  pub locals : F.locals ≤ 24
  pub blocks : length F.blocks ≤ 63
  pub entry : BlockFits version F.entry
  pub labelled : All (LabelledBlockFits version) F.blocks

-- A well-formed program of a version within document 01's ranges: "function count (1 to 32)".
pub record Source (P : Program) : Type 0 where
  pub well_formed : WellFormed P
  pub version : IsVersion (program_version P)
  pub some : 1 ≤ length P
  pub most : length P ≤ 32
  pub functions : All (FunctionFits (program_version P)) P

-- The writing of its translation is accepted exactly when it is at most 65,535 bytes long, and reads back as that translation.
pub record TranslationAccepted : Type 0 where
  pub fits : (P : Program) → Source P → (check_of (writing (translate P)) ≡ accepted) ↔ (length (writing (translate P)) ≤ file_limit)
  pub reads_back : (P : Program) → Source P → code_of (writing (translate P)) ≡ translate P
