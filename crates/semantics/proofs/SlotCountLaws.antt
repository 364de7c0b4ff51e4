-- How many slots code uses: a translation as many as `slots_used` says.
use Rattle.std.specs.Prelude.{ℕ, suc, ◌+◌, ◌≤◌, ◌<◌, ◌≡◌, refl, Bool, true, false, cond, List, [], ◌∷◌, ltb}
use Rattle.std.proofs.Common.{arith, le_refl, le_trans, ltb-true, ltb-false}
use Rattle.semantics.specs.Program.{FunctionNumber, Labelled, Function, Program, variables}
use Rattle.semantics.specs.WellFormed.{All, WellFormed}
use Rattle.semantics.specs.Code.{Target}
use Rattle.semantics.specs.Translation.{uses_spare, slot_of, last_slot, block_target, targets, number, translate_function, translate_from, translate}
use Rattle.semantics.specs.SlotCount.{UsesSlots, larger, slots_used}
use Rattle.semantics.proofs.ListLaws.{all_every, all_append, all_mapped}
use Rattle.semantics.proofs.TranslationRules.{rules}

variables_below : (m : ℕ) (F : Function) → last_slot F < m → suc (suc (variables F)) ≤ m
variables_below m F = by (uses_spare F)
  where
    by : (c : Bool) → cond c (slot_of (suc (suc (variables F)))) (slot_of (suc (variables F))) < m → suc (suc (variables F)) ≤ m
    by true h = omega arith
    by false h = omega arith

translation_params : (m : ℕ) (numbers : FunctionNumber → ℕ) (base : ℕ) (Fs : List Function) → All (λ F. last_slot F < m) Fs → All (λ D. suc (suc D.params) ≤ m) (translate_from numbers base Fs)
translation_params m numbers base [] a = tt
translation_params m numbers base (F ∷ Fs) a =
    let v : suc (suc (F.params + F.locals)) ≤ m = variables_below m F a.0 in
    all_append (λ (D : Target). suc (suc D.params) ≤ m) (translate_function numbers base F) (translate_from numbers (base + targets F) Fs)
    (omega arith, all_mapped (λ (D : Target). suc (suc D.params) ≤ m) (λ (B : Labelled). Unit {0}) (block_target numbers base F) F.blocks (λ B b. v) (all_every (λ (B : Labelled). Unit {0}) (λ B. tt) F.blocks))
    (translation_params m numbers (base + targets F) Fs a.1)

-- The translation of a well-formed program uses the slots up to the last ones of its functions.
pub translation_uses : (m : ℕ) (P : Program) → WellFormed P → All (λ F. last_slot F < m) P → UsesSlots m (translate P)
unfolding translate
translation_uses m P W a = (rules m P W a, translation_params m (number P) 0 P a)

-- The larger of two numbers.
larger_left : (m n : ℕ) → m ≤ larger m n
larger_left m n = by (ltb m n) refl
  where
    by : (c : Bool) → ltb m n ≡ c → m ≤ cond c n m
    by true e = let l : m < n = ltb-true m n e in omega arith
    by false e = omega arith

larger_right : (m n : ℕ) → n ≤ larger m n
larger_right m n = by (ltb m n) refl
  where
    by : (c : Bool) → ltb m n ≡ c → n ≤ cond c n m
    by true e = omega arith
    by false e = ltb-false m n e

pub larger_least : (m n k : ℕ) → m ≤ k → n ≤ k → larger m n ≤ k
larger_least m n k l h = by (ltb m n)
  where
    by : (c : Bool) → cond c n m ≤ k
    by true = h
    by false = l

used_within : (m : ℕ) (P : Program) → slots_used P ≤ m → All (λ F. last_slot F < m) P
unfolding slots_used
used_within m [] h = tt
used_within m (F ∷ Fs) h = (
  le_trans (larger_right (slots_used Fs) (suc (last_slot F))) h,
  used_within m Fs (le_trans (larger_left (slots_used Fs) (suc (last_slot F))) h),
)

-- `slots_used` is above the last slot of each function.
pub used_above : (P : Program) → All (λ F. last_slot F < slots_used P) P
used_above P = used_within (slots_used P) P (le_refl (slots_used P))

-- Of the numbers from 2 upward that are above them all, it is the least.
pub used_bound : (m : ℕ) → 2 ≤ m → (P : Program) → All (λ F. last_slot F < m) P → slots_used P ≤ m
unfolding slots_used
used_bound m h [] a = h
used_bound m h (F ∷ Fs) a = larger_least (slots_used Fs) (suc (last_slot F)) m (used_bound m h Fs a.1) a.0
