-- What the functions that write a call are asked.
use Rattle.std.specs.Prelude.{ℕ, ◌≡◌, List, length}
use Rattle.procedure_operations.specs.Operation.{operation_at, arguments_at}
use Rattle.procedure_operations.specs.Ranges.{NumbersInRange}
use Rattle.procedure_fields.specs.Number.{count_of}

-- A call with n arguments stands at an offset of the file.
pub record CallInFile (s : List ℕ) (at n : ℕ) : Type 0 where
  pub count : n ≡ count_of (operation_at s at)
  pub long : length (arguments_at s at n) ≡ n
  pub numbers : NumbersInRange s at (operation_at s at)
