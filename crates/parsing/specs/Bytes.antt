-- The bytes of numbers, "the low byte first".
use Rattle.std.specs.Prelude.{ℕ, ◌/◌, ◌%◌, ◌<◌, List, [], ◌∷◌, ℤ, get_or}
use Rattle.std.specs.Int.{w32}
use Rattle.std.proofs.Common.{of_z}

-- A list of bytes.
abbrev pub Bytes : List ℕ → Type 0
Bytes s = (i : ℕ) → get_or s i 0 < 256

-- The two bytes of a field of 16 bits.
abbrev pub pair_bytes : ℕ → List ℕ
pair_bytes n = n % 256 ∷ n / 256 ∷ []

-- The four bytes of a signed 32-bit value; `of_z w32` is the library's 32 bits of it.
abbrev pub value_bytes : ℤ → List ℕ
value_bytes i =
    let n = of_z w32 i in
    n % 256 ∷ n / 256 % 256 ∷ n / 256 / 256 % 256 ∷ n / 256 / 256 / 256 ∷ []
