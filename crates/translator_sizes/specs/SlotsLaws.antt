-- The slots that the translation of a file uses, as they are counted from the first function to the last.
use Rattle.std.specs.Prelude.{ℕ, suc, ◌+◌, ◌≤◌, ◌<◌, ◌≡◌, refl, Bool, true, false, cond, ltb, max, List, [], ◌∷◌, length, drop}
use Rattle.std.proofs.Common.{arith, add-one, sym, ap, ◌∙◌, eq-eqb, ne_eqb, ltb-true, ltb-false, drop-cons, drop_of_length-le}
use Rattle.parsing.specs.Fields.{version_of}
use Rattle.semantics.specs.Program.{Function, Program, no_function, variables, function_of}
use Rattle.semantics.specs.Translation.{last_slot}
use Rattle.semantics.specs.SlotCount.{larger, slots_used}
use Rattle.procedure_file.specs.Check.{program_of}
use Rattle.procedure_file.specs.FileInvariant.{FileInvariant}
use Rattle.translator_sizes.specs.UnderLaws.{few}

-- The last slot of a function, by the version of its file.
module _ {s : List ℕ} (K : FileInvariant s) (f : ℕ) (there : f < length (program_of s)) {v w : ℕ} (ev : v ≡ variables (function_of (program_of s) f)) (ew : w ≡ version_of s) where
  abbrev F : Function
  F = function_of (program_of s) f

  version_as : F.version ≡ w
  version_as = K.version f there ∙ sym ew

  pub last_spare : w ≡ 2 → (v + 4 ≡ last_slot F) × (v + 4 ≤ 36)
  last_spare e = (rw (eq-eqb F.version 2 (version_as ∙ e)) (omega arith), omega (arith, few K f there))

  pub last_handler : (w ≡ 2 → ⊥) → (v + 3 ≡ last_slot F) × (v + 3 ≤ 36)
  last_handler n = (rw (ne_eqb F.version 2 (λ e. n (sym version_as ∙ e))) (omega arith), omega (arith, few K f there))

larger_max : (m n : ℕ) → larger m n ≡ max m n
larger_max m n = by (ltb m n) refl
  where
    by : (t : Bool) → ltb m n ≡ t → cond t n m ≡ max m n
    by true e = let h = ltb-true m n e in omega arith
    by false e = let h = ltb-false m n e in omega arith

-- No fewer than the two slots that are always kept.
two_slots : (P : Program) → 2 ≤ slots_used P
unfolding slots_used
two_slots [] = omega arith
two_slots (F ∷ P) = let h = two_slots P in let e = larger_max (slots_used P) (suc (last_slot F)) in omega arith

-- One function more.
used_next : (P : Program) (i : ℕ) → i < length P → slots_used (drop i P) ≡ max (slots_used (drop (i + 1) P)) (suc (last_slot (function_of P i)))
unfolding slots_used
used_next P i h =
    ap slots_used (drop-cons P i no_function h)
    ∙ (larger_max (slots_used (drop (suc i) P)) (suc (last_slot (function_of P i)))
    ∙ ap (λ (k : ℕ). max (slots_used (drop k P)) (suc (last_slot (function_of P i)))) (sym (add-one i)))

-- The functions below i are counted.
pub record Counted (s : List ℕ) (i n : ℕ) : Type 0 where
  pub is : max n (slots_used (drop i (program_of s))) ≡ slots_used (program_of s)
  pub least_bound : 2 ≤ n
  pub slot_bound : n ≤ 37

pub counted_none : (s : List ℕ) → Counted s 0 2
counted_none s = record { is = omega (arith, two_slots (program_of s)); least_bound = omega arith; slot_bound = omega arith }

pub counted_next : {s : List ℕ} {i n k m : ℕ} → Counted s i n → i < length (program_of s) → k ≡ last_slot (function_of (program_of s) i) → k ≤ 36 → m ≡ max n (k + 1) → Counted s (i + 1) m
counted_next {s} {i} {n} {k} {m} C inside ek b em =
    let e = used_next (program_of s) i inside in
    record { is = omega (arith, C.is); least_bound = omega (arith, C.least_bound); slot_bound = omega (arith, C.slot_bound) }

pub counted_all : {s : List ℕ} {i n : ℕ} → Counted s i n → length (program_of s) ≤ i → (n ≡ slots_used (program_of s)) × (n ≤ 37)
unfolding slots_used
counted_all {s} {i} C h =
    let e : slots_used (drop i (program_of s)) ≡ 2 = ap slots_used (drop_of_length-le (program_of s) {i = i} h) in
    (omega (arith, C.is, C.least_bound), C.slot_bound)
