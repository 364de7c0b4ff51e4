-- The operation at an offset of a file (document 01, 'The procedure file'): "The operation byte decides among eight forms", in version 2 among nine (document 02, Slip 7).
use Rattle.std.specs.Prelude.{ℕ, ◌+◌, cond, List, leb, eqb, length, get_or, take, drop}
use Rattle.parsing.specs.declared.reason.Reason.TheVariants.{Unknown}
use Rattle.parsing.specs.Parser.{refusal}
use Rattle.parsing.specs.Fields.{cut, version_of, value_at}
use Rattle.procedure_operations.specs.declared.operation.Operation.{Operation}
use Rattle.procedure_operations.specs.declared.operation.Operation.TheVariants.{Constant, Copy, Difference, Call, Goto, Return, Branch, Raise, RaiseValue, Refused}

-- An operation whose last byte stands before the offset `next`; else the file ends early.
abbrev pub whole : List ℕ → ℕ → Operation → Operation
whole s next o = cond (leb next (length s)) o (Refused (cut s))

-- "1 constant: variable, 4-byte signed value."
unfoldable pub constant_at : List ℕ → ℕ → Operation
constant_at s at = whole s (at + 6) (Constant (get_or s (at + 1) 0) (value_at s (at + 2)) (at + 6))

-- "2 copy: target, from."
unfoldable pub copy_at : List ℕ → ℕ → Operation
copy_at s at = whole s (at + 3) (Copy (get_or s (at + 1) 0) (get_or s (at + 2) 0) (at + 3))

-- "3 difference: target, y, z."
unfoldable pub difference_at : List ℕ → ℕ → Operation
difference_at s at = whole s (at + 4) (Difference (get_or s (at + 1) 0) (get_or s (at + 2) 0) (get_or s (at + 3) 0) (at + 4))

-- "4 call: result variable, function, argument count, arguments (repeats allowed)."
unfoldable pub call_at : List ℕ → ℕ → Operation
call_at s at =
    let count = get_or s (at + 3) 0 in
    whole s (at + 4) (whole s (at + 4 + count) (Call (get_or s (at + 1) 0) (get_or s (at + 2) 0) count (at + 4 + count)))

-- The arguments of the call at an offset.
abbrev pub arguments_at : List ℕ → ℕ → ℕ → List ℕ
arguments_at s at n = take n (drop (at + 4) s)

-- "5 goto: label."
unfoldable pub goto_at : List ℕ → ℕ → Operation
goto_at s at = whole s (at + 2) (Goto (get_or s (at + 1) 0) (at + 2))

-- "6 return: variable."
unfoldable pub return_at : List ℕ → ℕ → Operation
return_at s at = whole s (at + 2) (Return (get_or s (at + 1) 0) (at + 2))

-- "7 branch: y, z, label if y ≤ z, label otherwise."
unfoldable pub branch_at : List ℕ → ℕ → Operation
branch_at s at =
    whole s (at + 5) (Branch (get_or s (at + 1) 0) (get_or s (at + 2) 0) (get_or s (at + 3) 0) (get_or s (at + 4) 0) (at + 5))

-- "Operation 9 raises a variable's value and ends its block" (document 02, Slip 7), in version 2; else "6 unknown operation".
unfoldable pub raise_value_at : List ℕ → ℕ → Operation
raise_value_at s at = cond (eqb (version_of s) 2) (whole s (at + 2) (RaiseValue (get_or s (at + 1) 0) (at + 2))) (Refused (refusal Unknown at))

-- "8 raise." "6 unknown operation."
unfoldable pub end_at : List ℕ → ℕ → ℕ → Operation
end_at s at number =
    cond (eqb number 5) (goto_at s at)
    (cond (eqb number 6) (return_at s at)
    (cond (eqb number 7) (branch_at s at)
    (cond (eqb number 8) (Raise (at + 1))
    (cond (eqb number 9) (raise_value_at s at)
    (Refused (refusal Unknown at))))))

unfoldable pub operation_at : List ℕ → ℕ → Operation
operation_at s at =
    let number = get_or s at 0 in
    cond (leb (length s) at) (Refused (cut s))
    (cond (eqb number 1) (constant_at s at)
    (cond (eqb number 2) (copy_at s at)
    (cond (eqb number 3) (difference_at s at)
    (cond (eqb number 4) (call_at s at)
    (end_at s at number)))))
