-- The length of a jump, whatever its number of values, and of what may be missing.
use Rattle.std.specs.Prelude.{ℕ, zero, suc, ◌+◌, ◌*◌, ◌≡◌, refl, List, [], ◌∷◌, ◌++◌, map, Bool, true, false, cond, eqb, length}
use Rattle.std.proofs.Common.{arith, ap, ◌∙◌}
use Rattle.std.proofs.lemmas.List.{length-map}
use Rattle.semantics.specs.Translation.{slot_of, slots_from}
use Rattle.procedure_operations.specs.Operation.{arguments_at}
use Rattle.translator_bytes.specs.Bytes.{if_any, size_if_any, jump_head, label_jump, call_jump, guarded_head, zeros}
use Rattle.byte_writers.specs.Writes.{Wrote}
use Rattle.translator_bytes.specs.Writes.{CallInFile}

pub length_slots : (x n : ℕ) → length (slots_from x n) ≡ n
length_slots x zero = refl
length_slots x (suc n) = ap suc (length_slots (suc x) n)

jump_size : (g k h n : ℕ) (slots : List ℕ) → length slots ≡ n → length (jump_head g k h n ++ slots) ≡ 6 + n
unfolding jump_head
jump_size g k h n slots e = omega arith

pub label_size : (base v l : ℕ) → length (label_jump base v l) ≡ 6 + v
unfolding label_jump
label_size base v l = jump_size (base + l) 0 1 v (slots_from 2 v) (length_slots 2 v)

pub call_size_lem : (g k h n : ℕ) (ys : List ℕ) → length ys ≡ n → length (call_jump g k h n ys) ≡ 6 + n
unfolding call_jump
call_size_lem g k h n ys e = jump_size g k h n (map slot_of ys) (length-map ys slot_of ∙ e)

pub length_zeros : (x n : ℕ) → length (zeros x n) ≡ 6 * n
length_zeros x zero = refl
length_zeros x (suc n) = let a = length_zeros (suc x) n in omega arith

-- Bytes of a slot, if any.
pub any_size : (slot : ℕ) (w : List ℕ) {n : ℕ} → length w ≡ n → length (if_any slot w) ≡ size_if_any slot n
unfolding if_any size_if_any
any_size slot w {n} e = by (eqb slot 0)
  where
    by : (t : Bool) → length (cond t [] w) ≡ cond t 0 n
    by true = refl
    by false = e

pub head_size : (k x t q : ℕ) → length (guarded_head k x t q) ≡ 4 + size_if_any q 1
unfolding guarded_head
head_size k x t q = let a : length (if_any q (q ∷ [])) ≡ size_if_any q 1 = any_size q (q ∷ []) refl in omega arith

-- Slip 6: "For each count from 0 to 32 the sum is the number of bytes written." What writes a jump at o promises `Wrote`, where r is the offset past it.
module _ {o r : ℕ} {d d' : List ℕ} where
  pub label_jump_written : (base v l : ℕ) → Wrote o (label_jump base v l) d r d' → r ≡ o + (6 + v)
  label_jump_written base v l W = W.next ∙ ap (λ (n : ℕ). o + n) (label_size base v l)

  pub call_jump_written : (s : List ℕ) (at g k h n : ℕ) → CallInFile s at n → Wrote o (call_jump g k h n (arguments_at s at n)) d r d' → r ≡ o + (6 + n)
  call_jump_written s at g k h n C W = W.next ∙ ap (λ (m : ℕ). o + m) (call_size_lem g k h n (arguments_at s at n) C.long)
