-- Bytes one by one: what is written part by part is a list of bytes.
use Rattle.std.specs.Prelude.{ℕ, zero, suc, ◌/◌, ◌%◌, ◌<◌, List, [], ◌∷◌, ◌++◌, ℤ}
use Rattle.std.proofs.Common.{arith, of_z, SFits}
use Rattle.std.specs.Int.{w32}
use mir.ValLaws.{of_z_fits}
use Rattle.parsing.specs.Parser.{joined}
use Rattle.parsing.specs.Bytes.{Bytes, pair_bytes, value_bytes}

pub data Row : List ℕ → Type 0 where
  none : Row []
  more : (b : ℕ) {s : List ℕ} → b < 256 → Row s → Row (b ∷ s)

pub row_bytes : {s : List ℕ} → Row s → Bytes s
row_bytes none i = omega arith
row_bytes (more b h r) zero = h
row_bytes (more b h r) (suc i) = row_bytes r i

pub append : {s t : List ℕ} → Row s → Row t → Row (s ++ t)
append none b = b
append (more x h a) b = more x h (append a b)

-- Where what holds of a list gives its first item, and holds of the others: the numbers, and the writings of the items.
pub row_list : (H : List ℕ → Type 0) → ((y : ℕ) (ys : List ℕ) → H (y ∷ ys) → (y < 256) × H ys) → (ys : List ℕ) → H ys → Row ys
row_list H f [] h = none
row_list H f (y ∷ ys) h = let g = f y ys h in more y g.0 (row_list H f ys g.1)

pub row_joined : {A : Type 0} (w : A → List ℕ) (H : List A → Type 0) → ((a : A) (as' : List A) → H (a ∷ as') → Row (w a) × H as')
    → (as' : List A) → H as' → Row (joined w as')
row_joined w H f [] h = none
row_joined w H f (a ∷ rest) h = let g = f a rest h in append g.0 (row_joined w H f rest g.1)

pub pair_row : (n : ℕ) → n < 65536 → Row (pair_bytes n)
pair_row n h = more (n % 256) (omega arith) (more (n / 256) (omega arith) none)

pub value_row : (i : ℤ) → SFits w32 i → Row (value_bytes i)
value_row i f =
    let n = of_z w32 i in
    let h : n < 4294967296 = (of_z_fits w32 i f).fits in
    more (n % 256) (omega arith) (more (n / 256 % 256) (omega arith) (more (n / 256 / 256 % 256) (omega arith) (more (n / 256 / 256 / 256) (omega arith) none)))
