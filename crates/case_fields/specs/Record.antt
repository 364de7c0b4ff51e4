-- The parts of a record.
use Rattle.std.specs.Prelude.{ℕ, zero, suc, ◌+◌, ◌*◌, ◌/◌, ◌≤◌, min, ◌≡◌, List, [], ◌∷◌, ◌++◌, ℤ, length, get_or, take, drop}
use Rattle.parsing.specs.Fields.{value_of}

-- The first n of xs are there. The second part follows from the first; lending the front of xs asks for both.
abbrev pub Front : {A : Type 0} → ℕ → List A → Type 0
Front n xs = (n ≤ length xs) × (n ≡ length (take n xs))

-- Argument i of those that stand in s, four bytes each.
unfoldable pub value_at : List ℕ → ℕ → ℤ
value_at s i = value_of (get_or s (4 * i) 0) (get_or s (4 * i + 1) 0) (get_or s (4 * i + 2) 0) (get_or s (4 * i + 3) 0)

-- The first n arguments.
abbrev pub values_of : List ℕ → ℕ → List ℤ
values_of s zero = []
values_of s (suc n) = values_of s n ++ (value_at s n ∷ [])

-- As many arguments as are whole in s and have room stand in front of what was there.
pub record Taken (s : List ℕ) (a : List ℤ) (n : ℕ) (a' : List ℤ) : Type 0 where
  pub many : n ≡ min (length s / 4) (length a)
  pub front : take n a' ≡ values_of s n
  pub rest : drop n a' ≡ drop n a
