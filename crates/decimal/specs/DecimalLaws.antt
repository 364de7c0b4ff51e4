-- Laws of words and numbers: how long they are, and that two writes, one behind the other, are one.
use Rattle.std.specs.Prelude.{ℕ, zero, suc, ◌+◌, ◌-◌, ◌/◌, ◌%◌, ◌≤◌, ◌<◌, ◌≡◌, refl, Bool, true, false, cond, List, [], ◌∷◌, ◌++◌, ltb, ℤ, pos, negsuc, nat_abs, length, take, drop, set}
use Rattle.std.proofs.Common.{arith, sym, ap, ◌∙◌, subst, length-append, ltb-true, lt-ltb, le-ltb, SFits, to_z, of_z, to_z-of_z}
use Rattle.std.specs.Int.{w32}
use Rattle.std.specs.Int.Signed.{lt_z}
use Rattle.memory.specs.Lay.{lay}
use Rattle.memory.specs.LayLaws.{length_lay, join, lay_one, lay_part}
use Rattle.decimal.specs.Decimal.{digits, decimal, signed, numbered}
use Rattle.decimal.specs.WroteText.{WroteText}

-- The lent bytes stay as many.
pub wrote_long : {at r : ℕ} {w d d' : List ℕ} → WroteText at w d r d' → length d' ≡ length d
wrote_long {at} {r} {w} {d} {d'} k =
    let p : r ≡ at + length w = k.past in
    let l : r ≤ length d = k.within in
    ap length k.same ∙ length_lay at w d (omega arith)

-- Two writes, one behind the other.
pub wrote_then : {at r r₂ : ℕ} {a b d d₁ d₂ : List ℕ} → WroteText at a d r d₁ → WroteText r b d₁ r₂ d₂ → WroteText at (a ++ b) d r₂ d₂
wrote_then {at} {r} {r₂} {a} {b} {d} {d₁} {d₂} k l =
    let p : r ≡ at + length a = k.past in
    let q : r₂ ≡ r + length b = l.past in
    let e : length (a ++ b) ≡ length a + length b = length-append a b in
    let f : r ≤ length d = k.within in
    let g : r₂ ≤ length d₁ = l.within in
    let h : length d₁ ≡ length d = wrote_long k in
    record { same = join at r a b (a ++ b) d d₁ d₂ k.same l.same p refl (omega arith); past = omega arith; within = omega arith }

-- One byte.
pub wrote_one : (at x : ℕ) (d : List ℕ) → at < length d → WroteText at (x ∷ []) d (at + 1) (set d at x)
wrote_one at x d h = record { same = lay_one at x d h; past = refl; within = omega arith }

-- A word, copied over a part of the lent bytes.
pub wrote_word : (at k : ℕ) (w word d : List ℕ) → at + length word ≤ length d → k ≡ length word → w ≡ word → length w ≡ length (take k (drop at d)) → WroteText at word d (at + length word) (take at d ++ (w ++ drop k (drop at d)))
wrote_word at k w word d h q p e =
    record { same = lay_part at k w d (omega arith) e ∙ ap (λ (x : List ℕ). lay at x d) p; past = refl; within = h }

-- The digits, as the code has them.
pub digits_last : (k n : ℕ) → k ≡ 0 → (48 + n % 10) ∷ [] ≡ digits k n
unfolding digits
digits_last k n e = ap (λ (j : ℕ). digits j n) (sym e)

pub digits_one : (k n : ℕ) → 0 < k → n < 10 → (48 + n) ∷ [] ≡ digits k n
unfolding digits
digits_one zero n h l = absurd (omega arith)
digits_one (suc k) n h l = sym (ap (λ (c : Bool). cond c ((48 + n) ∷ []) (digits k (n / 10) ++ ((48 + n % 10) ∷ []))) (lt-ltb n 10 l))

pub digits_more : (k j n : ℕ) → 0 < k → j ≡ k - 1 → 10 ≤ n → digits j (n / 10) ++ ((48 + n % 10) ∷ []) ≡ digits k n
unfolding digits
digits_more zero j n h e l = absurd (omega arith)
digits_more (suc k) j n h e l =
    let q : j ≡ k = omega arith in
    ap (λ (i : ℕ). digits i (n / 10) ++ ((48 + n % 10) ∷ [])) q
    ∙ sym (ap (λ (c : Bool). cond c ((48 + n) ∷ []) (digits k (n / 10) ++ ((48 + n % 10) ∷ []))) (le-ltb n 10 l))

pub length_digits : (k n : ℕ) → length (digits k n) ≤ k + 1
unfolding digits
length_digits zero n = omega arith
length_digits (suc k) n = by (ltb n 10) (length_digits k (n / 10))
  where
    by : (c : Bool) → length (digits k (n / 10)) ≤ k + 1 → length (cond c ((48 + n) ∷ []) (digits k (n / 10) ++ ((48 + n % 10) ∷ []))) ≤ suc k + 1
    by true h = omega arith
    by false h = let e : length (digits k (n / 10) ++ ((48 + n % 10) ∷ [])) ≡ length (digits k (n / 10)) + 1 = length-append (digits k (n / 10)) ((48 + n % 10) ∷ []) in omega arith

pub length_decimal : (n : ℕ) → length (decimal n) ≤ 20
unfolding decimal
length_decimal n = length_digits 19 n

pub length_signed : (z : ℤ) → length (signed z) ≤ 21
unfolding signed
length_signed (pos n) = let h : length (decimal n) ≤ 20 = length_decimal n in omega arith
length_signed (negsuc n) = let h : length (decimal (suc n)) ≤ 20 = length_decimal (suc n) in omega arith

pub length_numbered : (word : List ℕ) (n : ℕ) → length (numbered word n) ≤ length word + 20
unfolding numbered
length_numbered word n =
    let h : length (decimal n) ≤ 20 = length_decimal n in
    let e : length (word ++ decimal n) ≡ length word + length (decimal n) = length-append word (decimal n) in
    omega arith

-- The same text, said otherwise.
pub wrote_as : {at r : ℕ} {a b d d' : List ℕ} → a ≡ b → WroteText at a d r d' → WroteText at b d r d'
wrote_as {at} {r} {a} {b} {d} {d'} e k = subst (λ (w : List ℕ). WroteText at w d r d') e k

-- Room for what is written behind a text.
pub wrote_room : {at r : ℕ} {w d d' : List ℕ} (n m : ℕ) → WroteText at w d r d' → length w ≤ n → at + (n + m) ≤ length d → r + m ≤ length d'
wrote_room {at} {r} {w} {d} {d'} n m k h l =
    let p : r ≡ at + length w = k.past in
    let e : length d' ≡ length d = wrote_long k in
    omega arith

-- A test of a value's sign, as the code has it.
pub sign_of : (v : ℤ) (t : Bool) → SFits w32 v → lt_z (to_z w32 (of_z w32 v)) (pos 0) ≡ t → lt_z v (pos 0) ≡ t
sign_of v t h e = ap (λ (x : ℤ). lt_z x (pos 0)) (sym (to_z-of_z h)) ∙ e

-- A value, as the code has it: its sign, and its size without the sign.
pub signed_minus : (v : ℤ) (n : ℕ) → n ≡ nat_abs v → lt_z v (pos 0) ≡ true → 45 ∷ decimal n ≡ signed v
unfolding signed
signed_minus (pos k) n e t = let l : k < 0 = ltb-true k 0 t in absurd (omega arith)
signed_minus (negsuc k) n e t = ap (λ (m : ℕ). 45 ∷ decimal m) e

pub signed_plus : (v : ℤ) (n : ℕ) → n ≡ nat_abs v → lt_z v (pos 0) ≡ false → decimal n ≡ signed v
unfolding signed
signed_plus (pos k) n e t = ap decimal e
signed_plus (negsuc k) n e t = let z : ◌≡◌ {A = ℕ} 0 1 = cc in absurd (omega arith)
