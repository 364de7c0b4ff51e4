-- Demand 1 for procedure files: a file is accepted exactly when it is the writing of a program within document 01's ranges that is
-- well-formed (figure 3), and at most 32,768 bytes long.
use Rattle.std.specs.Prelude.{ℕ, ◌≤◌, ◌≡◌, ◌↔◌, List, length}
use Rattle.parsing.specs.Parser.{accepted}
use Rattle.parsing.specs.Bytes.{Bytes}
use Rattle.semantics.specs.Program.{Program}
use Rattle.semantics.specs.WellFormed.{WellFormed}
use Rattle.procedure_layout.specs.Layout.{file_limit}
use Rattle.procedure_names.specs.Writing.{writing, InRange}
use Rattle.procedure_file.specs.Check.{check_of, program_of}

-- A program that has a file.
pub record HasFile (P : Program) : Type 0 where
  pub in_range : InRange P
  pub well_formed : WellFormed P
  pub fits : length (writing P) ≤ file_limit

-- The statement, which AcceptedLaws proves.
pub record Acceptance : Type 0 where
  -- Accepted exactly when written by such a program.
  pub exactly : (s : List ℕ) → Bytes s → (check_of s ≡ accepted) ↔ ((P : Program) × HasFile P × (s ≡ writing P))
  -- An accepted file is the writing of the program that is read.
  pub is_writing : (s : List ℕ) → Bytes s → check_of s ≡ accepted → HasFile (program_of s) × (s ≡ writing (program_of s))
  -- The writing of every such program is accepted, and it is the program that is read.
  pub is_accepted : (P : Program) → HasFile P → (check_of (writing P) ≡ accepted) × (program_of (writing P) ≡ P)
  -- Its file is a list of bytes.
  pub is_bytes : (P : Program) → HasFile P → Bytes (writing P)
  -- No two programs share a file.
  pub is_unique : (P Q : Program) → HasFile P → HasFile Q → writing P ≡ writing Q → P ≡ Q
