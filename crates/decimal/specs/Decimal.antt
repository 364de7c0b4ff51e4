-- Numbers in decimal, as bytes.
use Rattle.std.specs.Prelude.{ℕ, zero, suc, ◌+◌, ◌/◌, ◌%◌, cond, List, [], ◌∷◌, ◌++◌, ltb, ℤ, pos, negsuc}

-- The decimal digits of n, at most k and one more; 48 is `0`.
unfoldable pub digits : ℕ → ℕ → List ℕ
digits zero n = (48 + n % 10) ∷ []
digits (suc k) n = cond (ltb n 10) ((48 + n) ∷ []) (digits k (n / 10) ++ ((48 + n % 10) ∷ []))

-- A number in decimal. A 64-bit number has at most 20 digits.
unfoldable pub decimal : ℕ → List ℕ
decimal n = digits 19 n

-- A value in decimal, `-` (45) before a negative one.
unfoldable pub signed : ℤ → List ℕ
signed (pos n) = decimal n
signed (negsuc n) = 45 ∷ decimal (suc n)

-- A word and a number behind it.
unfoldable pub numbered : List ℕ → ℕ → List ℕ
numbered word n = word ++ decimal n
