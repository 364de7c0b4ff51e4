-- What stands in the file where an operation has a number: the laws of the functions that read its fields.
use Rattle.std.specs.Prelude.{ℕ, ◌+◌, ◌≤◌, ◌<◌, ◌≡◌, cond, List, eqb, ℤ, length, get_or, drop}
use Rattle.std.proofs.Common.{arith, sym, ◌∙◌, subst, get_or-take, get_or-drop}
use Rattle.std.proofs.Math.Path.{refl, ap}
use Rattle.parsing.specs.Fields.{version_of, value_at}
use Rattle.procedure_operations.specs.declared.operation.Operation.{Operation}
use Rattle.procedure_operations.specs.declared.operation.Operation.TheVariants.{Constant, Copy, Difference, Call, Goto, Return, Branch, Raise, RaiseValue, Refused}
use Rattle.procedure_operations.specs.Operation.{operation_at, arguments_at}
use Rattle.procedure_operations.specs.Ranges.{NumbersInRange}
use Rattle.procedure_operations.specs.OperationLaws.{op_constant, op_copy, op_difference, op_call, op_goto, op_return, op_branch, op_raise_value}
use Rattle.procedure_operations.specs.ViewLaws.{View, is_constant, is_copy, is_difference, is_call, is_goto, is_return, is_branch, is_raise, is_raise_value, is_refused, view}
use Rattle.procedure_fields.specs.Number.{number_of, count_of}
use Rattle.procedure_fields.specs.NumberLaws.{argument_in_range}

-- How many bytes an operation with this number takes.
abbrev width : List ℕ → ℕ → ℕ → ℕ
width s at k =
    cond (eqb k 1) 6
    (cond (eqb k 2) 3
    (cond (eqb k 3) 4
    (cond (eqb k 4) (4 + get_or s (at + 3) 0)
    (cond (eqb k 5) 2
    (cond (eqb k 6) 2
    (cond (eqb k 7) 5
    (cond (eqb k 9) 2 1)))))))

record Written (s : List ℕ) (at k : ℕ) : Type 0 where
  number : get_or s at 0 ≡ k
  room : at + width s at k ≤ length s

module _ (s : List ℕ) (at : ℕ) where
  by_view : {o : Operation} → View s at o → 1 ≤ number_of o → Written s at (number_of o)
  unfolding number_of
  by_view (is_constant e h) p = record { number = e; room = h }
  by_view (is_copy e h) p = record { number = e; room = h }
  by_view (is_difference e h) p = record { number = e; room = h }
  by_view (is_call e h) p = record { number = e; room = omega (arith, h) }
  by_view (is_goto e h) p = record { number = e; room = h }
  by_view (is_return e h) p = record { number = e; room = h }
  by_view (is_branch e h) p = record { number = e; room = h }
  by_view (is_raise e h) p = record { number = e; room = h }
  by_view (is_raise_value e h v) p = record { number = e; room = h }
  by_view (is_refused r) p = absurd (omega (arith, p))

  by_room : {o : Operation} → View s at o → 1 ≤ number_of o → at < length s
  unfolding number_of
  by_room (is_constant e k) p = omega (arith, k)
  by_room (is_copy e k) p = omega (arith, k)
  by_room (is_difference e k) p = omega (arith, k)
  by_room (is_call e k) p = omega (arith, k)
  by_room (is_goto e k) p = omega (arith, k)
  by_room (is_return e k) p = omega (arith, k)
  by_room (is_branch e k) p = omega (arith, k)
  by_room (is_raise e k) p = omega (arith, k)
  by_room (is_raise_value e k v) p = omega (arith, k)
  by_room (is_refused r) p = absurd (omega (arith, p))

  written : (k : ℕ) → number_of (operation_at s at) ≡ k → 1 ≤ k → Written s at k
  written k e h = subst (Written s at) e (by_view (view s at) (rw e h))

  -- A byte stands there, and it is the number.
  pub number_read : 1 ≤ number_of (operation_at s at) → get_or s at 0 ≡ number_of (operation_at s at)
  number_read h = (written (number_of (operation_at s at)) refl h).number

  pub number_room : 1 ≤ number_of (operation_at s at) → at < length s
  number_room h = by_room (view s at) h

  -- The numbers that an operation of a known form names.
  pub in_range_lem : NumbersInRange s at (operation_at s at) → {o : Operation} → operation_at s at ≡ o → NumbersInRange s at o
  in_range_lem r e = subst (NumbersInRange s at) e r

  pub constant_room : number_of (operation_at s at) ≡ 1 → at + 6 ≤ length s
  constant_room e = (written 1 e (omega arith)).room

  pub constant_bytes : number_of (operation_at s at) ≡ 1 → operation_at s at ≡ Constant (get_or s (at + 1) 0) (value_at s (at + 2)) (at + 6)
  constant_bytes e = op_constant s at (written 1 e (omega arith)).number (constant_room e)

  pub constant_fields : {x : ℕ} {v : ℤ} → number_of (operation_at s at) ≡ 1 → x ≡ get_or s (at + 1) 0 → v ≡ value_at s (at + 2)
      → operation_at s at ≡ Constant x v (at + 6)
  constant_fields e p q = rw (p, q) (constant_bytes e)

  pub constant_value : {x : ℕ} → number_of (operation_at s at) ≡ 1 → x ≡ get_or s (at + 1) 0 → operation_at s at ≡ Constant x (value_at s (at + 2)) (at + 2 + 4)
  constant_value {x} e p =
      let q : at + 6 ≡ at + 2 + 4 = omega arith in
      constant_fields e p refl ∙ ap (Constant x (value_at s (at + 2))) q

  pub copy_room : number_of (operation_at s at) ≡ 2 → at + 3 ≤ length s
  copy_room e = (written 2 e (omega arith)).room

  pub copy_bytes : number_of (operation_at s at) ≡ 2 → operation_at s at ≡ Copy (get_or s (at + 1) 0) (get_or s (at + 2) 0) (at + 3)
  copy_bytes e = op_copy s at (written 2 e (omega arith)).number (copy_room e)

  pub copy_fields : {x y : ℕ} → number_of (operation_at s at) ≡ 2 → x ≡ get_or s (at + 1) 0 → y ≡ get_or s (at + 2) 0 → operation_at s at ≡ Copy x y (at + 3)
  copy_fields e p q = rw (p, q) (copy_bytes e)

  pub difference_room : number_of (operation_at s at) ≡ 3 → at + 4 ≤ length s
  difference_room e = (written 3 e (omega arith)).room

  pub difference_bytes_lem : number_of (operation_at s at) ≡ 3 → operation_at s at ≡ Difference (get_or s (at + 1) 0) (get_or s (at + 2) 0) (get_or s (at + 3) 0) (at + 4)
  difference_bytes_lem e = op_difference s at (written 3 e (omega arith)).number (difference_room e)

  pub difference_fields : {x y z : ℕ} → number_of (operation_at s at) ≡ 3 → x ≡ get_or s (at + 1) 0 → y ≡ get_or s (at + 2) 0 → z ≡ get_or s (at + 3) 0
      → operation_at s at ≡ Difference x y z (at + 4)
  difference_fields e p q r = rw (p, q, r) (difference_bytes_lem e)

  pub call_room : number_of (operation_at s at) ≡ 4 → at + 4 + get_or s (at + 3) 0 ≤ length s
  call_room e = omega (arith, (written 4 e (omega arith)).room)

  pub call_bytes_lem : number_of (operation_at s at) ≡ 4 → operation_at s at ≡ Call (get_or s (at + 1) 0) (get_or s (at + 2) 0) (get_or s (at + 3) 0) (at + 4 + get_or s (at + 3) 0)
  call_bytes_lem e = op_call s at (written 4 e (omega arith)).number (call_room e)

  pub call_fields : {x g : ℕ} → number_of (operation_at s at) ≡ 4 → x ≡ get_or s (at + 1) 0 → g ≡ get_or s (at + 2) 0
      → operation_at s at ≡ Call x g (get_or s (at + 3) 0) (at + 4 + get_or s (at + 3) 0)
  call_fields e p q = rw (p, q) (call_bytes_lem e)

  pub goto_room : number_of (operation_at s at) ≡ 5 → at + 2 ≤ length s
  goto_room e = (written 5 e (omega arith)).room

  pub goto_fields : number_of (operation_at s at) ≡ 5 → operation_at s at ≡ Goto (get_or s (at + 1) 0) (at + 2)
  goto_fields e = op_goto s at (written 5 e (omega arith)).number (goto_room e)

  pub return_room : number_of (operation_at s at) ≡ 6 → at + 2 ≤ length s
  return_room e = (written 6 e (omega arith)).room

  pub return_bytes : number_of (operation_at s at) ≡ 6 → operation_at s at ≡ Return (get_or s (at + 1) 0) (at + 2)
  return_bytes e = op_return s at (written 6 e (omega arith)).number (return_room e)

  pub return_fields : {x : ℕ} → number_of (operation_at s at) ≡ 6 → x ≡ get_or s (at + 1) 0 → operation_at s at ≡ Return x (at + 2)
  return_fields e p = rw (p) (return_bytes e)

  pub branch_room : number_of (operation_at s at) ≡ 7 → at + 5 ≤ length s
  branch_room e = (written 7 e (omega arith)).room

  pub branch_bytes_lem : number_of (operation_at s at) ≡ 7 → operation_at s at ≡ Branch (get_or s (at + 1) 0) (get_or s (at + 2) 0) (get_or s (at + 3) 0) (get_or s (at + 4) 0) (at + 5)
  branch_bytes_lem e = op_branch s at (written 7 e (omega arith)).number (branch_room e)

  pub branch_fields : {y z : ℕ} → number_of (operation_at s at) ≡ 7 → y ≡ get_or s (at + 1) 0 → z ≡ get_or s (at + 2) 0
      → operation_at s at ≡ Branch y z (get_or s (at + 3) 0) (get_or s (at + 4) 0) (at + 5)
  branch_fields e p q = rw (p, q) (branch_bytes_lem e)

  pub raise_value_room : number_of (operation_at s at) ≡ 9 → at + 2 ≤ length s
  raise_value_room e = (written 9 e (omega arith)).room

  -- Operation 9 is read in version 2 alone.
  by_version : {o : Operation} → View s at o → number_of o ≡ 9 → version_of s ≡ 2
  unfolding number_of
  by_version (is_constant e k) p = absurd (omega (arith, p))
  by_version (is_copy e k) p = absurd (omega (arith, p))
  by_version (is_difference e k) p = absurd (omega (arith, p))
  by_version (is_call e k) p = absurd (omega (arith, p))
  by_version (is_goto e k) p = absurd (omega (arith, p))
  by_version (is_return e k) p = absurd (omega (arith, p))
  by_version (is_branch e k) p = absurd (omega (arith, p))
  by_version (is_raise e k) p = absurd (omega (arith, p))
  by_version (is_raise_value e k v) p = v
  by_version (is_refused r) p = absurd (omega (arith, p))

  pub raise_value_bytes_lem : number_of (operation_at s at) ≡ 9 → operation_at s at ≡ RaiseValue (get_or s (at + 1) 0) (at + 2)
  raise_value_bytes_lem e = op_raise_value s at (written 9 e (omega arith)).number (raise_value_room e) (by_version (view s at) e)

  pub raise_value_fields : {x : ℕ} → number_of (operation_at s at) ≡ 9 → x ≡ get_or s (at + 1) 0 → operation_at s at ≡ RaiseValue x (at + 2)
  raise_value_fields e p = rw (p) (raise_value_bytes_lem e)

  -- Argument i of a call.
  module _ (i : ℕ) (h : i < count_of (operation_at s at)) where
    is_call_lem : number_of (operation_at s at) ≡ 4
    unfolding number_of count_of
    is_call_lem = by (operation_at s at) h
      where
        by : (o : Operation) → i < count_of o → number_of o ≡ 4
        by (Constant x v n) p = absurd (omega (arith, p))
        by (Copy x y n) p = absurd (omega (arith, p))
        by (Difference x y z n) p = absurd (omega (arith, p))
        by (Call x g k n) p = refl
        by (Goto l n) p = absurd (omega (arith, p))
        by (Return x n) p = absurd (omega (arith, p))
        by (Branch y z l m n) p = absurd (omega (arith, p))
        by (Raise n) p = absurd (omega (arith, p))
        by (RaiseValue x n) p = absurd (omega (arith, p))
        by (Refused r) p = absurd (omega (arith, p))

    count_is_lem : count_of (operation_at s at) ≡ get_or s (at + 3) 0
    unfolding count_of
    count_is_lem = ap count_of (call_bytes_lem is_call_lem)

    counted : i < get_or s (at + 3) 0
    counted = subst (λ (n : ℕ). i < n) count_is_lem h

    pub argument_room : at + 4 + i < length s
    argument_room = omega (arith, call_room is_call_lem, counted)

    pub argument_byte : get_or s (at + 4 + i) 0 ≡ get_or (arguments_at s at (count_of (operation_at s at))) i 0
    argument_byte = sym (get_or-take (count_of (operation_at s at)) (drop (at + 4) s) i 0 h ∙ get_or-drop (at + 4) s i 0)

    pub argument_range : NumbersInRange s at (operation_at s at) → get_or s (at + 4 + i) 0 < 32
    argument_range r = subst (λ (y : ℕ). y < 32) (sym argument_byte) (argument_in_range s at (operation_at s at) r i h)
