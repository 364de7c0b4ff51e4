-- Words, as the code goes over them.
use Prim.Native.Nat.{ℕ, suc, ◌+◌, ◌<◌, ◌≤◌}
use native.Mathlib.Omega.{arith}
use Rattle.std.specs.Prelude.{◌≡◌, refl, Bool, true, false, List, ℤ, pos, negsuc, length, get_or, drop}
use Rattle.std.proofs.Math.Path.{sym, ap}
use Rattle.std.proofs.Common.{◌∙◌, true≢false, drop_of_length-le, drop-cons, eqb-true, eq-eqb}
use Rattle.std.proofs.Math.Bool.{cond}
use Rattle.case_fields.specs.Words.{every, same}

same_refl : (x : ℤ) → same x x ≡ true
same_refl (pos a) = eq-eqb a a refl
same_refl (negsuc a) = eq-eqb a a refl

same_true : (w x : ℤ) → same w x ≡ true → w ≡ x
same_true (pos a) (pos b) e = ap pos (eqb-true a b e)
same_true (negsuc a) (negsuc b) e = ap negsuc (eqb-true a b e)
same_true (pos a) (negsuc b) e = absurd (true≢false (sym e))
same_true (negsuc a) (pos b) e = absurd (true≢false (sym e))

same_false : (w x : ℤ) → (w ≡ x → ⊥) → same w x ≡ false
same_false w x n = by (same w x) refl
  where
    by : (t : Bool) → same w x ≡ t → same w x ≡ false
    by true e = absurd (n (same_true w x e))
    by false e = e

-- The code has gone over i words, each of them x.
module _ (x : ℤ) (ws : List ℤ) (i : ℕ) (so : every x (drop i ws) ≡ every x ws) where
  at_word_lem : (t : Bool) → i < length ws → same (get_or ws i (pos 0)) x ≡ t → every x ws ≡ cond t (every x (drop (i + 1) ws)) false
  unfolding every
  at_word_lem t h e =
      let j : suc i ≡ i + 1 = omega arith in
      sym so
      ∙ (ap (every x) (drop-cons ws i (pos 0) h)
      ∙ (ap (λ (m : ℕ). cond (same (get_or ws i (pos 0)) x) (every x (drop m ws)) false) j ∙ ap (λ (b : Bool). cond b (every x (drop (i + 1) ws)) false) e))

  pub other_word : i < length ws → (get_or ws i (pos 0) ≡ x → ⊥) → false ≡ every x ws
  other_word h n = sym (at_word_lem false h (same_false (get_or ws i (pos 0)) x n))

  pub same_word : i < length ws → get_or ws i (pos 0) ≡ x → every x (drop (i + 1) ws) ≡ every x ws
  same_word h e = sym (at_word_lem true h (ap (λ (w : ℤ). same w x) e ∙ same_refl x))

  pub no_word : length ws ≤ i → true ≡ every x ws
  unfolding every
  no_word h = ap (every x) (sym (drop_of_length-le ws h)) ∙ so
