-- What the functions that write a block are asked: an operation of an accepted file stands there, and the table of numbers.
use Rattle.std.specs.Prelude.{ℕ, ◌≤◌, ◌<◌, ◌≡◌, List, length, get_or}
use Rattle.semantics.specs.Translation.{number}
use Rattle.procedure_file.specs.Check.{program_of}
use Rattle.translator_sizes.specs.Asked.{OperationInFile}

-- The table holds the number of each function's entry in the translation.
abbrev pub Numbered : List ℕ → List ℕ → Type 0
Numbered s ns = (g : ℕ) → g < length (program_of s) → get_or ns g 0 ≡ number (program_of s) g

pub record Placed (s ns : List ℕ) (base v at : ℕ) : Type 0 where
  pub here : OperationInFile s v at
  pub numbered : Numbered s ns
  pub base_bound : base ≤ 2048
