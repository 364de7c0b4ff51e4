-- Numbers and their bytes, back and forth.
use Rattle.std.specs.Prelude.{ℕ, ◌+◌, ◌*◌, ◌/◌, ◌%◌, ◌<◌, ◌≡◌, ℤ, get_or}
use mathlib.Core.List.{List, [], ◌∷◌}
use Rattle.std.proofs.Common.{arith, of_z, Fits, SFits, to_z-of_z}
use Rattle.std.specs.Int.{w32}
use Rattle.std.proofs.Math.Facts.{of_z-to_z, sfits_to_z}
use Rattle.parsing.specs.Fields.{value_of, value_at}
use Rattle.parsing.specs.Bytes.{Bytes, pair_bytes, value_bytes}

-- The bytes of the number of two bytes are those, and the number of the bytes of a number is that.
pub pair_back : (a b : ℕ) → a < 256 → pair_bytes (a + 256 * b) ≡ a ∷ b ∷ []
pair_back a b h = go (omega arith) (omega arith)
  where
    go : {x y : ℕ} → x ≡ a → y ≡ b → x ∷ y ∷ [] ≡ a ∷ b ∷ []
    go p q = cc

pub pair_forth : (n : ℕ) → n % 256 + 256 * (n / 256) ≡ n
pair_forth n = omega arith

-- The bytes of the value of four bytes are those.
module _ (a b c d : ℕ) (a_byte : a < 256) (b_byte : b < 256) (c_byte : c < 256) (d_byte : d < 256) where
  abbrev bits : ℕ
  bits = a + 256 * b + 65536 * c + 16777216 * d

  fits : Fits w32 bits
  fits = record { fits = omega arith }

  pub value_back : value_bytes (value_of a b c d) ≡ a ∷ b ∷ c ∷ d ∷ []
  unfolding value_of
  value_back =
      rw (of_z-to_z {w = w32} {n = bits} fits)
      (go (omega arith) (omega arith) (omega arith) (omega arith))
    where
      go : {x y z w : ℕ} → x ≡ a → y ≡ b → z ≡ c → w ≡ d → x ∷ y ∷ z ∷ w ∷ [] ≡ a ∷ b ∷ c ∷ d ∷ []
      go p q r t = cc

  pub value_range : SFits w32 (value_of a b c d)
  unfolding value_of
  value_range = sfits_to_z {w = w32} {n = bits} fits

module _ (s : List ℕ) (bytes : Bytes s) (at : ℕ) where
  pub value_bytes_lem : value_bytes (value_at s at) ≡ get_or s at 0 ∷ get_or s (at + 1) 0 ∷ get_or s (at + 2) 0 ∷ get_or s (at + 3) 0 ∷ []
  value_bytes_lem = value_back _ _ _ _ (bytes at) (bytes (at + 1)) (bytes (at + 2)) (bytes (at + 3))

  pub value_fits : SFits w32 (value_at s at)
  value_fits = value_range _ _ _ _ (bytes at) (bytes (at + 1)) (bytes (at + 2)) (bytes (at + 3))

-- The value of the bytes of a value is that value.
pub value_forth : (i : ℤ) → SFits w32 i
    → value_of (of_z w32 i % 256) (of_z w32 i / 256 % 256) (of_z w32 i / 256 / 256 % 256) (of_z w32 i / 256 / 256 / 256) ≡ i
unfolding value_of
value_forth i f =
    let n = of_z w32 i in
    let e : n % 256 + 256 * (n / 256 % 256) + 65536 * (n / 256 / 256 % 256) + 16777216 * (n / 256 / 256 / 256) ≡ n = omega arith in
    rw e (to_z-of_z f)
