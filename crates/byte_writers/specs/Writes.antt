-- What the functions that write are asked and what they promise.
use Rattle.std.specs.Prelude.{ℕ, ◌+◌, ◌≤◌, ◌≡◌, List, length}
use Rattle.memory.specs.Lay.{lay}

-- No file that is written has more bytes: the limit of a translated file.
abbrev pub output_limit : ℕ
output_limit = 65535

-- There is room for n bytes at an offset of the output d, within the limit.
pub record Room (o n : ℕ) (d : List ℕ) : Type 0 where
  pub fits : o + n ≤ length d
  pub small : o + n ≤ output_limit

-- w was written at an offset o of d, which is now d'; r is the offset past it.
pub record Wrote (o : ℕ) (w d : List ℕ) (r : ℕ) (d' : List ℕ) : Type 0 where
  pub next : r ≡ o + length w
  pub laid : d' ≡ lay o w d
