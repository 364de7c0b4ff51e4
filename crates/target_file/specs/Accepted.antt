-- Demand 1 for translated files: a file is accepted exactly when it is the writing of code within document 01's ranges and levels that
-- keeps the slot rules of its version, among them that jumps name existing functions with their argument counts, and at most 65,535 bytes long.
use Rattle.std.specs.Prelude.{ℕ, ◌≤◌, ◌≡◌, ◌↔◌, List, length}
use Rattle.semantics.specs.Code.{Code}
use Rattle.semantics.specs.Controller.{code_version}
use Rattle.semantics.specs.SlotRules.{KeepsSlotRules}
use Rattle.parsing.specs.Parser.{accepted}
use Rattle.parsing.specs.Bytes.{Bytes}
use Rattle.target_tags.specs.Tag.{file_limit, slots_in}
use Rattle.target_file.specs.Writing.{writing, InRange}
use Rattle.target_file.specs.Check.{check_of, code_of}

-- Code that has a file.
pub record HasFile (Q : Code) : Type 0 where
  pub in_range : InRange Q
  pub rules : KeepsSlotRules (slots_in (code_version Q)) Q
  pub fits : length (writing Q) ≤ file_limit

-- The statement, which AcceptedLaws proves.
pub record Acceptance : Type 0 where
  -- Accepted exactly when written by such code.
  pub exactly : (s : List ℕ) → Bytes s → (check_of s ≡ accepted) ↔ ((Q : Code) × HasFile Q × (s ≡ writing Q))
  -- An accepted file is the writing of the code that is read.
  pub is_writing : (s : List ℕ) → Bytes s → check_of s ≡ accepted → HasFile (code_of s) × (s ≡ writing (code_of s))
  -- The writing of all such code is accepted, and it is the code that is read.
  pub is_accepted : (Q : Code) → HasFile Q → (check_of (writing Q) ≡ accepted) × (code_of (writing Q) ≡ Q)
  -- Its file is a list of bytes.
  pub is_bytes : (Q : Code) → HasFile Q → Bytes (writing Q)
  -- No two codes share a file.
  pub is_unique : (Q R : Code) → HasFile Q → HasFile R → writing Q ≡ writing R → Q ≡ R
