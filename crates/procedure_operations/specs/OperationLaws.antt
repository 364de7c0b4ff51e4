-- Laws of the operation at an offset, as the functions that read it meet them.
use Rattle.parsing.specs.declared.reason.Reason.TheVariants.{Unknown}
use Rattle.std.specs.Prelude.{ℕ, ◌+◌, ◌≤◌, ◌<◌, ◌≡◌, refl, ◌≢◌, List, length}
use Rattle.std.proofs.Common.{ap, ◌∙◌, arith}
use borrow.Author.Tests.{le-leb, lt-leb, eq-eqb, ne_eqb}
use Rattle.std.proofs.Math.ListN.{get_or}
use Rattle.parsing.specs.Parser.{refusal}
use Rattle.parsing.specs.Fields.{cut, version_of, value_at}
use Rattle.procedure_operations.specs.declared.operation.Operation.TheVariants.{Constant, Copy, Difference, Call, Goto, Return, Branch, Raise, RaiseValue, Refused}
use Rattle.procedure_operations.specs.Operation.{constant_at, copy_at, difference_at, call_at, goto_at, return_at, branch_at, raise_value_at, end_at, operation_at}

-- Each operation, cut short and whole.
module _ (s : List ℕ) (at : ℕ) where
  pub constant_cut : length s < at + 6 → constant_at s at ≡ Refused (cut s)
  unfolding constant_at
  constant_cut h = rw (lt-leb (at + 6) (length s) h)

  pub constant_in : at + 6 ≤ length s → constant_at s at ≡ Constant (get_or s (at + 1) 0) (value_at s (at + 2)) (at + 6)
  unfolding constant_at
  constant_in h = rw (le-leb (at + 6) (length s) h)

  pub copy_cut : length s < at + 3 → copy_at s at ≡ Refused (cut s)
  unfolding copy_at
  copy_cut h = rw (lt-leb (at + 3) (length s) h)

  pub copy_in : at + 3 ≤ length s → copy_at s at ≡ Copy (get_or s (at + 1) 0) (get_or s (at + 2) 0) (at + 3)
  unfolding copy_at
  copy_in h = rw (le-leb (at + 3) (length s) h)

  pub difference_cut : length s < at + 4 → difference_at s at ≡ Refused (cut s)
  unfolding difference_at
  difference_cut h = rw (lt-leb (at + 4) (length s) h)

  pub difference_in : at + 4 ≤ length s → difference_at s at ≡ Difference (get_or s (at + 1) 0) (get_or s (at + 2) 0) (get_or s (at + 3) 0) (at + 4)
  unfolding difference_at
  difference_in h = rw (le-leb (at + 4) (length s) h)

  pub goto_cut : length s < at + 2 → goto_at s at ≡ Refused (cut s)
  unfolding goto_at
  goto_cut h = rw (lt-leb (at + 2) (length s) h)

  pub goto_in : at + 2 ≤ length s → goto_at s at ≡ Goto (get_or s (at + 1) 0) (at + 2)
  unfolding goto_at
  goto_in h = rw (le-leb (at + 2) (length s) h)

  pub return_cut : length s < at + 2 → return_at s at ≡ Refused (cut s)
  unfolding return_at
  return_cut h = rw (lt-leb (at + 2) (length s) h)

  pub return_in : at + 2 ≤ length s → return_at s at ≡ Return (get_or s (at + 1) 0) (at + 2)
  unfolding return_at
  return_in h = rw (le-leb (at + 2) (length s) h)

  pub branch_cut : length s < at + 5 → branch_at s at ≡ Refused (cut s)
  unfolding branch_at
  branch_cut h = rw (lt-leb (at + 5) (length s) h)

  pub branch_in : at + 5 ≤ length s → branch_at s at ≡ Branch (get_or s (at + 1) 0) (get_or s (at + 2) 0) (get_or s (at + 3) 0) (get_or s (at + 4) 0) (at + 5)
  unfolding branch_at
  branch_in h = rw (le-leb (at + 5) (length s) h)

  pub raise_value_unknown : version_of s ≢ 2 → raise_value_at s at ≡ Refused (refusal Unknown at)
  unfolding raise_value_at
  raise_value_unknown n = rw (ne_eqb (version_of s) 2 n)

  pub raise_value_cut : version_of s ≡ 2 → length s < at + 2 → raise_value_at s at ≡ Refused (cut s)
  unfolding raise_value_at
  raise_value_cut v h = rw (eq-eqb (version_of s) 2 v, lt-leb (at + 2) (length s) h)

  pub raise_value_in : version_of s ≡ 2 → at + 2 ≤ length s → raise_value_at s at ≡ RaiseValue (get_or s (at + 1) 0) (at + 2)
  unfolding raise_value_at
  raise_value_in v h = rw (eq-eqb (version_of s) 2 v, le-leb (at + 2) (length s) h)

  pub call_cut : length s < at + 4 → call_at s at ≡ Refused (cut s)
  unfolding call_at
  call_cut h = rw (lt-leb (at + 4) (length s) h)

  pub call_short : at + 4 ≤ length s → length s < at + 4 + get_or s (at + 3) 0 → call_at s at ≡ Refused (cut s)
  unfolding call_at
  call_short h k = rw (le-leb (at + 4) (length s) h, lt-leb (at + 4 + get_or s (at + 3) 0) (length s) k)

  pub call_in : at + 4 + get_or s (at + 3) 0 ≤ length s
      → call_at s at ≡ Call (get_or s (at + 1) 0) (get_or s (at + 2) 0) (get_or s (at + 3) 0) (at + 4 + get_or s (at + 3) 0)
  unfolding call_at
  call_in h = rw (le-leb (at + 4) (length s) (omega arith), le-leb (at + 4 + get_or s (at + 3) 0) (length s) h)

-- The operation that ends a block, by its number.
module _ (s : List ℕ) (at n : ℕ) where
  pub end_5 : n ≡ 5 → end_at s at n ≡ goto_at s at
  unfolding end_at
  end_5 e = rw e

  pub end_6 : n ≡ 6 → end_at s at n ≡ return_at s at
  unfolding end_at
  end_6 e = rw e

  pub end_7 : n ≡ 7 → end_at s at n ≡ branch_at s at
  unfolding end_at
  end_7 e = rw e

  pub end_8 : n ≡ 8 → end_at s at n ≡ Raise (at + 1)
  unfolding end_at
  end_8 e = rw e

  pub end_9 : n ≡ 9 → end_at s at n ≡ raise_value_at s at
  unfolding end_at
  end_9 e = rw e

  pub end_unknown : n ≢ 5 → n ≢ 6 → n ≢ 7 → n ≢ 8 → n ≢ 9 → end_at s at n ≡ Refused (refusal Unknown at)
  unfolding end_at
  end_unknown a b c d e = rw (ne_eqb n 5 a, ne_eqb n 6 b, ne_eqb n 7 c, ne_eqb n 8 d, ne_eqb n 9 e)

pub operation_past : (s : List ℕ) (at : ℕ) → length s ≤ at → operation_at s at ≡ Refused (cut s)
unfolding operation_at
operation_past s at h = rw (le-leb (length s) at h)

-- The operation at an offset, by its number.
module _ (s : List ℕ) (at : ℕ) (inside : at < length s) where
  pub operation_1 : get_or s at 0 ≡ 1 → operation_at s at ≡ constant_at s at
  unfolding operation_at
  operation_1 e = rw (lt-leb (length s) at inside, e)

  pub operation_2 : get_or s at 0 ≡ 2 → operation_at s at ≡ copy_at s at
  unfolding operation_at
  operation_2 e = rw (lt-leb (length s) at inside, e)

  pub operation_3 : get_or s at 0 ≡ 3 → operation_at s at ≡ difference_at s at
  unfolding operation_at
  operation_3 e = rw (lt-leb (length s) at inside, e)

  pub operation_4 : get_or s at 0 ≡ 4 → operation_at s at ≡ call_at s at
  unfolding operation_at
  operation_4 e = rw (lt-leb (length s) at inside, e)

  module _ (a : get_or s at 0 ≢ 1) (b : get_or s at 0 ≢ 2) (c : get_or s at 0 ≢ 3) (d : get_or s at 0 ≢ 4) where
    pub operation_end : operation_at s at ≡ end_at s at (get_or s at 0)
    unfolding operation_at
    operation_end =
        let n = get_or s at 0 in
        rw (lt-leb (length s) at inside, ne_eqb n 1 a, ne_eqb n 2 b, ne_eqb n 3 c, ne_eqb n 4 d)

    pub operation_unknown : get_or s at 0 ≢ 5 → get_or s at 0 ≢ 6 → get_or s at 0 ≢ 7 → get_or s at 0 ≢ 8 → get_or s at 0 ≢ 9 → operation_at s at ≡ Refused (refusal Unknown at)
    operation_unknown e f g h i = rw operation_end (end_unknown s at (get_or s at 0) e f g h i)

-- An operation that ends a block, at an offset.
operation_ends : (s : List ℕ) (at k : ℕ) → at < length s → get_or s at 0 ≡ k → 5 ≤ k → operation_at s at ≡ end_at s at k
operation_ends s at k i e h =
    operation_end s at i (λ w. omega arith) (λ w. omega arith) (λ w. omega arith) (λ w. omega arith) ∙ ap (end_at s at) e

-- The operation at an offset, by its number.
module _ (s : List ℕ) (at : ℕ) where
  pub op_constant : get_or s at 0 ≡ 1 → at + 6 ≤ length s → operation_at s at ≡ Constant (get_or s (at + 1) 0) (value_at s (at + 2)) (at + 6)
  op_constant e h = operation_1 s at (omega arith) e ∙ constant_in s at h

  pub op_copy : get_or s at 0 ≡ 2 → at + 3 ≤ length s → operation_at s at ≡ Copy (get_or s (at + 1) 0) (get_or s (at + 2) 0) (at + 3)
  op_copy e h = operation_2 s at (omega arith) e ∙ copy_in s at h

  pub op_difference : get_or s at 0 ≡ 3 → at + 4 ≤ length s
      → operation_at s at ≡ Difference (get_or s (at + 1) 0) (get_or s (at + 2) 0) (get_or s (at + 3) 0) (at + 4)
  op_difference e h = operation_3 s at (omega arith) e ∙ difference_in s at h

  pub op_call : get_or s at 0 ≡ 4 → at + 4 + get_or s (at + 3) 0 ≤ length s
      → operation_at s at ≡ Call (get_or s (at + 1) 0) (get_or s (at + 2) 0) (get_or s (at + 3) 0) (at + 4 + get_or s (at + 3) 0)
  op_call e h = operation_4 s at (omega arith) e ∙ call_in s at h

  pub op_goto : get_or s at 0 ≡ 5 → at + 2 ≤ length s → operation_at s at ≡ Goto (get_or s (at + 1) 0) (at + 2)
  op_goto e h = operation_ends s at 5 (omega arith) e (omega arith) ∙ end_5 s at 5 refl ∙ goto_in s at h

  pub op_return : get_or s at 0 ≡ 6 → at + 2 ≤ length s → operation_at s at ≡ Return (get_or s (at + 1) 0) (at + 2)
  op_return e h = operation_ends s at 6 (omega arith) e (omega arith) ∙ end_6 s at 6 refl ∙ return_in s at h

  pub op_branch : get_or s at 0 ≡ 7 → at + 5 ≤ length s
      → operation_at s at ≡ Branch (get_or s (at + 1) 0) (get_or s (at + 2) 0) (get_or s (at + 3) 0) (get_or s (at + 4) 0) (at + 5)
  op_branch e h = operation_ends s at 7 (omega arith) e (omega arith) ∙ end_7 s at 7 refl ∙ branch_in s at h

  pub op_raise : get_or s at 0 ≡ 8 → at + 1 ≤ length s → operation_at s at ≡ Raise (at + 1)
  op_raise e h = operation_ends s at 8 (omega arith) e (omega arith) ∙ end_8 s at 8 refl

  pub op_raise_value : get_or s at 0 ≡ 9 → at + 2 ≤ length s → version_of s ≡ 2 → operation_at s at ≡ RaiseValue (get_or s (at + 1) 0) (at + 2)
  op_raise_value e h v = operation_ends s at 9 (omega arith) e (omega arith) ∙ end_9 s at 9 refl ∙ raise_value_in s at v h
