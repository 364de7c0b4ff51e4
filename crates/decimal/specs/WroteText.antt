-- What a writer has done.
use Rattle.std.specs.Prelude.{ℕ, ◌+◌, ◌≤◌, ◌≡◌, List, length}
use Rattle.memory.specs.Lay.{lay}

-- The text w was written from place `at` on into d, which then is d'; the answer r is the place behind it.
pub record WroteText (at : ℕ) (w d : List ℕ) (r : ℕ) (d' : List ℕ) : Type 0 where
  pub same : d' ≡ lay at w d
  pub past : r ≡ at + length w
  pub within : r ≤ length d
