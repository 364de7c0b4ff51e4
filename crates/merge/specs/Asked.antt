-- What the functions that write the merged file are asked.
use Rattle.std.specs.Prelude.{ℕ, ◌+◌, ◌≤◌, ◌<◌, ◌≡◌, List, length, get_or}
use Rattle.semantics.specs.Merge.{merged}
use Rattle.procedure_layout.specs.Layout.{max_functions}
use Rattle.procedure_file.specs.Check.{program_of}
use Rattle.procedure_file.specs.FileInvariant.{FileInvariant, OperationsAt}

-- The merged file has not too many functions.
abbrev pub FewFunctions : List ℕ → List ℕ → Type 0
FewFunctions s t = length (merged (program_of s) (program_of t)) ≤ max_functions

-- An operation of an accepted file stands at an offset.
pub record OperationInFile (s : List ℕ) (at : ℕ) : Type 0 where
  pub invariant : FileInvariant s
  pub function : ℕ
  pub stands : OperationsAt s function at

-- An operation fills the bytes from one offset up to another; n can be added to the function that a call names.
pub record OperationFits (s : List ℕ) (at next n : ℕ) : Type 0 where
  pub forward : at < next
  pub inside : next ≤ length s
  pub call : get_or s at 0 ≡ 4 → (at + 4 ≤ next) × (n + get_or s (at + 2) 0 ≤ 255)
