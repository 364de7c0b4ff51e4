-- The lists that loops write.
use Rattle.std.specs.Prelude.{ℕ, suc, ◌+◌, ◌<◌, ◌≡◌, List, [], ◌∷◌, ◌++◌, map, length, get_or, drop}
use Rattle.std.proofs.Common.{arith, ap, ◌∙◌, drop-cons}
use Rattle.semantics.specs.Translation.{slot_of, slots_from}
use Rattle.translator_bytes.specs.Bytes.{zeros}

-- The lists that loops write, first element first; n is one more than m.
pub slots_more : (x n m : ℕ) → n ≡ m + 1 → slots_from x n ≡ (x ∷ []) ++ slots_from (x + 1) m
slots_more x n m e =
    let p : n ≡ suc m = omega arith in
    let q : suc x ≡ x + 1 = omega arith in
    ap (slots_from x) p ∙ ap (λ (y : ℕ). x ∷ slots_from y m) q

pub zeros_more : (x n m : ℕ) → n ≡ m + 1 → zeros x n ≡ ((1 ∷ x ∷ []) ++ (0 ∷ 0 ∷ 0 ∷ 0 ∷ [])) ++ zeros (x + 1) m
zeros_more x n m e =
    let p : n ≡ suc m = omega arith in
    let q : suc x ≡ x + 1 = omega arith in
    ap (zeros x) p ∙ ap (λ (y : ℕ). ((1 ∷ x ∷ []) ++ (0 ∷ 0 ∷ 0 ∷ 0 ∷ [])) ++ zeros y m) q

pub arguments_more : (ys : List ℕ) (i t : ℕ) → i < length ys → t ≡ get_or ys i 0 + 2 → map slot_of (drop i ys) ≡ (t ∷ []) ++ map slot_of (drop (i + 1) ys)
arguments_more ys i t h e =
    let q : suc i ≡ i + 1 = omega arith in
    let u : suc (suc (get_or ys i 0)) ≡ t = omega arith in
    ap (map slot_of) (drop-cons ys i 0 h)
    ∙ (ap (λ (k : ℕ). suc (suc (get_or ys i 0)) ∷ map slot_of (drop k ys)) q ∙ ap (λ (k : ℕ). k ∷ map slot_of (drop (i + 1) ys)) u)
