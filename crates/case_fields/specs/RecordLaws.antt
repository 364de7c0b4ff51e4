-- Arguments, as the code takes them.
use Rattle.std.specs.Prelude.{ℕ, zero, suc, ◌+◌, ◌/◌, ◌≤◌, ◌<◌, min, ◌≡◌, refl, List, [], ◌∷◌, ◌++◌, ℤ, length, get_or, take, drop, set}
use Rattle.std.proofs.Common.{arith, sym, ap, ◌∙◌, subst, length-set, take-suc-set, drop-set-lt, drop-drop, length-take-le}
use Rattle.std.proofs.Math.Seq.{length_front}
use Rattle.case_fields.specs.Record.{Front, value_at, values_of, Taken}

pub front : {A : Type 0} (n : ℕ) (xs : List A) → n ≤ length xs → Front n xs
front n xs h = (h, sym (length-take-le n xs h))

pub past_end : (s : List ℕ) (at : ℕ) → length s ≤ at → 0 ≡ get_or s at 0
past_end [] at h = refl
past_end (x ∷ s) zero h = absurd (omega arith)
past_end (x ∷ s) (suc at) h = past_end s at (omega arith)

-- What a read leaves: the bytes read, and those behind them.
pub read_front : (r n : ℕ) (d e : List ℕ) → length e ≡ length (take n d) → n ≤ length d → r ≤ length e → Front r (e ++ drop n d) × (r ≤ n)
read_front r n d e k h q =
    let l : length (e ++ drop n d) ≡ length d = length_front d e n k in
    let t : length (take n d) ≡ n = length-take-le n d h in
    (front r (e ++ drop n d) (omega arith), omega arith)

-- After i of n arguments.
pub record Taking (s : List ℕ) (a : List ℤ) (n i : ℕ) (a' : List ℤ) : Type 0 where
  pub many : n ≡ min (length s / 4) (length a)
  pub counter_bound : i ≤ n
  pub values : take i a' ≡ values_of s i
  pub rest : drop i a' ≡ drop i a
  pub same_length : length a' ≡ length a

pub taking_none : (s : List ℕ) (a : List ℤ) (n : ℕ) → n ≡ min (length s / 4) (length a) → Taking s a n 0 a
taking_none s a n m = record { many = m; counter_bound = omega arith; values = refl; rest = refl; same_length = refl }

pub taking_more : {s : List ℕ} {a : List ℤ} {n i : ℕ} {a' : List ℤ} {v w : ℤ} → Taking s a n i a' → i < n → v ≡ value_at s i → w ≡ v → Taking s a n (i + 1) (set a' i w)
taking_more {s} {a} {n} {i} {a'} {v} {w} F h e q =
    let m : n ≡ min (length s / 4) (length a) = F.many in
    let k : length a' ≡ length a = F.same_length in
    let j : i + 1 ≡ suc i = omega arith in
    record {
      many = m;
      counter_bound = omega arith;
      values =
          ap (λ (k : ℕ). take k (set a' i w)) j
          ∙ (take-suc-set a' i w (omega arith)
          ∙ (ap (λ (x : List ℤ). x ++ (w ∷ [])) F.values
          ∙ (ap (λ (x : ℤ). values_of s i ++ (x ∷ [])) (q ∙ e) ∙ ap (λ (k : ℕ). values_of s k) (sym j))));
      rest = drop-set-lt (i + 1) a' i w (omega arith) ∙ (sym (drop-drop 1 i a') ∙ (ap (drop 1) F.rest ∙ drop-drop 1 i a));
      same_length = length-set a' i w ∙ F.same_length;
    }

pub taking_all : {s : List ℕ} {a : List ℤ} {n i : ℕ} {a' : List ℤ} → Taking s a n i a' → n ≤ i → Front n a' × Taken s a n a'
taking_all {s} {a} {n} {i} {a'} F h =
    let m : n ≡ min (length s / 4) (length a) = F.many in
    let k : i ≤ n = F.counter_bound in
    let l : length a' ≡ length a = F.same_length in
    let e : i ≡ n = omega arith in (
      front n a' (omega arith),
      record {
        many = m;
        front = subst (λ (j : ℕ). take j a' ≡ values_of s j) e F.values;
        rest = subst (λ (j : ℕ). drop j a' ≡ drop j a) e F.rest;
      },
    )
