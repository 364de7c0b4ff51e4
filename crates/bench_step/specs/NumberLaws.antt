-- The number of an operation that stands at an offset.
use Rattle.std.specs.Prelude.{ℕ, ◌%◌, ◌≤◌, ◌≡◌, List, ◌≢◌, ℤ}
use Rattle.std.proofs.Common.{arith, sym, ap, ◌∙◌}
use Rattle.procedure_operations.specs.declared.operation.Operation.{Operation}
use Rattle.procedure_operations.specs.declared.operation.Operation.TheVariants.{Constant}
use Rattle.procedure_fields.specs.Number.{number_of}
use Rattle.procedure_fields.specs.NumberLaws.{number_known}
use Rattle.procedure_operations.specs.Operation.{operation_at}
use Rattle.procedure_file.specs.FileInvariant.{FileInvariant, OperationsAt}

pub numbered : {s : List ℕ} {f at : ℕ} → FileInvariant s → OperationsAt s f at → (1 ≤ number_of (operation_at s at)) × (number_of (operation_at s at) ≤ 9)
numbered {s} {f} {at} F S = number_known (operation_at s at) (λ r. F.operation f at r S)

-- That number by its remainder modulo 8, which is 0 for 8 and 1 for 1 and 9.
last_remainder : {k : ℕ} → k ≢ 1 → k ≢ 2 → k ≢ 3 → k ≤ 3 → k ≡ 0
last_remainder a b c h = omega arith

small_remainder : (n : ℕ) → n % 8 ≢ 4 → n % 8 ≢ 5 → n % 8 ≢ 6 → n % 8 ≢ 7 → n % 8 ≤ 3
small_remainder n a b c d = omega arith

eighth : {n m : ℕ} → n ≡ m → (1 ≤ m) × (m ≤ 9) → n % 8 ≡ 0 → m ≡ 8
eighth {m = m} q w e = let a : 1 ≤ m = w.0 in let b : m ≤ 9 = w.1 in omega arith

module _ {s : List ℕ} {f at : ℕ} (F : FileInvariant s) (S : OperationsAt s f at) {n : ℕ} (q : n ≡ number_of (operation_at s at)) where
  pub number_is : {k : ℕ} → n % 8 ≡ k → 2 ≤ k → number_of (operation_at s at) ≡ k
  number_is {k} e h = by (number_of (operation_at s at)) q (numbered F S)
    where
      by : (m : ℕ) → n ≡ m → (1 ≤ m) × (m ≤ 9) → m ≡ k
      by m p w = let a : 1 ≤ m = w.0 in let b : m ≤ 9 = w.1 in omega arith

  pub ninth_number : n % 8 ≡ 1 → n ≢ 1 → number_of (operation_at s at) ≡ 9
  ninth_number e h = by (number_of (operation_at s at)) q (numbered F S)
    where
      by : (m : ℕ) → n ≡ m → (1 ≤ m) × (m ≤ 9) → m ≡ 9
      by m p w = let a : 1 ≤ m = w.0 in let b : m ≤ 9 = w.1 in omega arith

  pub last_number : n % 8 ≢ 1 → n % 8 ≢ 2 → n % 8 ≢ 3 → n % 8 ≢ 4 → n % 8 ≢ 5 → n % 8 ≢ 6 → n % 8 ≢ 7 → number_of (operation_at s at) ≡ 8
  last_number a b c d e f g = eighth q (numbered F S) (last_remainder a b c (small_remainder n d e f g))

-- A value that went through a word.
pub constant_as : {o : Operation} {x n : ℕ} {i v : ℤ} → o ≡ Constant x i n → v ≡ i → o ≡ Constant x v n
constant_as {x = x} {n = n} e q = e ∙ ap (λ (z : ℤ). Constant x z n) (sym q)
