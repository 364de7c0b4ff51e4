-- The bytes of the forms that a block's operations become (document 01, 'The translated file', and document 02, Slips 2 and 7), as they are written one behind the other.
use Rattle.std.specs.Prelude.{ℕ, zero, suc, ◌+◌, cond, List, [], ◌∷◌, ◌++◌, map, eqb, get_or}
use Rattle.parsing.specs.Bytes.{pair_bytes, value_bytes}
use Rattle.semantics.specs.Translation.{slot_of, slots_from}
use Rattle.procedure_operations.specs.Operation.{arguments_at}
use Rattle.procedure_operations.specs.declared.operation.Operation.{Operation}
use Rattle.procedure_operations.specs.declared.operation.Operation.TheVariants.{Constant, Copy, Difference, Call, Goto, Return, Branch, Raise, RaiseValue, Refused}
use Rattle.translator_bytes.specs.declared.jumps.Under.{Under}

-- Bytes of a slot, where there is one: 0 stands for none.
unfoldable pub if_any : ℕ → List ℕ → List ℕ
if_any slot w = cond (eqb slot 0) [] w

unfoldable pub size_if_any : ℕ → ℕ → ℕ
size_if_any slot n = cond (eqb slot 0) 0 n

-- 4 jump, up to its slots: function, continuation slot, handler slot, count.
unfoldable pub jump_head : ℕ → ℕ → ℕ → ℕ → List ℕ
jump_head g k h n = (4 ∷ []) ++ (pair_bytes g ++ (k ∷ h ∷ n ∷ []))

-- The jump to a label with all of v variables.
unfoldable pub label_jump : ℕ → ℕ → ℕ → List ℕ
label_jump base v l = jump_head (base + l) 0 1 v ++ slots_from 2 v

-- The jump to a called function with its arguments.
unfoldable pub call_jump : ℕ → ℕ → ℕ → ℕ → List ℕ → List ℕ
call_jump g k h n ys = jump_head g k h n ++ map slot_of ys

-- A call without a handler, 8; the continuation's body follows.
unfoldable pub plain_call : ℕ → ℕ → ℕ → ℕ → List ℕ → List ℕ
plain_call v x g n ys = (8 ∷ (v + 2) ∷ (x + 2) ∷ []) ++ (pair_bytes (6 + n) ++ call_jump g (v + 2) 1 n ys)

-- A call under a handler, 9: its slots, the last of them the handler parameter of version 2 (Slip 7); the continuation's body follows.
unfoldable pub guarded_head : ℕ → ℕ → ℕ → ℕ → List ℕ
guarded_head k x t q = (9 ∷ k ∷ x ∷ t ∷ []) ++ if_any q (q ∷ [])

unfoldable pub guarded_call : ℕ → Under → ℕ → ℕ → ℕ → List ℕ → List ℕ
guarded_call base u x g n ys =
    guarded_head (u.variables + 2) (x + 2) (u.variables + 3) u.number_slot
    ++ (pair_bytes (6 + n)
    ++ (call_jump g (u.variables + 2) (u.variables + 3) n ys ++ (pair_bytes (6 + u.variables) ++ label_jump base u.variables u.handler)))

unfoldable pub branch_bytes : ℕ → ℕ → ℕ → ℕ → ℕ → ℕ → List ℕ
branch_bytes base v y z l m =
    (7 ∷ (y + 2) ∷ (z + 2) ∷ []) ++ (pair_bytes (6 + v) ++ (label_jump base v l ++ label_jump base v m))

-- The number 0 raised: without a handler 6, with the slot of version 2, else the jump to the handler. A slot, if any, is bound to 0 before:
-- "a 0 leaving the function is first bound to V+4"; "a raise inside its function binds the receiver, if any .., and jumps" (Slip 7).
unfoldable pub raise_end : ℕ → Under → List ℕ
raise_end base u =
    cond (eqb u.handler 0) ((6 ∷ 1 ∷ []) ++ if_any u.number_slot (u.number_slot ∷ [])) (label_jump base u.variables u.handler)

unfoldable pub raise_bytes : ℕ → Under → List ℕ
raise_bytes base u = if_any u.bound ((1 ∷ u.bound ∷ []) ++ (0 ∷ 0 ∷ 0 ∷ 0 ∷ [])) ++ raise_end base u

unfoldable pub raise_end_size : Under → ℕ
raise_end_size u = cond (eqb u.handler 0) (2 + size_if_any u.number_slot 1) (6 + u.variables)

unfoldable pub raise_size : Under → ℕ
raise_size u = size_if_any u.bound 6 + raise_end_size u

-- A variable's value raised: without a handler it leaves in its own slot, else it goes to the receiver, "even to itself".
unfoldable pub raise_value_bytes : ℕ → Under → ℕ → List ℕ
raise_value_bytes base u y =
    cond (eqb u.handler 0) (6 ∷ 1 ∷ (y + 2) ∷ []) (if_any u.bound (2 ∷ u.bound ∷ (y + 2) ∷ []) ++ label_jump base u.variables u.handler)

unfoldable pub raise_value_size : Under → ℕ
raise_value_size u = cond (eqb u.handler 0) 3 (size_if_any u.bound 3 + (6 + u.variables))

-- A difference, 10, with what a raise becomes there; the rest follows.
unfoldable pub difference_bytes : ℕ → Under → ℕ → ℕ → ℕ → List ℕ
difference_bytes base u x y z = (10 ∷ (x + 2) ∷ (y + 2) ∷ (z + 2) ∷ []) ++ (pair_bytes (raise_size u) ++ raise_bytes base u)

unfoldable pub call_bytes : ℕ → Under → ℕ → ℕ → ℕ → List ℕ → List ℕ
call_bytes base u x g n ys = cond (eqb u.handler 0) (plain_call u.variables x g n ys) (guarded_call base u x g n ys)

-- n locals from slot x on, bound to 0 by tag 1.
abbrev pub zeros : ℕ → ℕ → List ℕ
zeros x zero = []
zeros x (suc n) = ((1 ∷ x ∷ []) ++ (0 ∷ 0 ∷ 0 ∷ 0 ∷ [])) ++ zeros (suc x) n

-- The number of a function's entry in the translation, from the table.
abbrev pub tabled : List ℕ → ℕ → ℕ
tabled ns g = get_or ns g 0

-- What the operation at an offset becomes, before the rest of its block.
abbrev pub operation_bytes : (ℕ → ℕ) → ℕ → Under → List ℕ → ℕ → Operation → List ℕ
operation_bytes numbers base u s at (Constant x i next) = (1 ∷ (x + 2) ∷ []) ++ value_bytes i
operation_bytes numbers base u s at (Copy x y next) = 2 ∷ (x + 2) ∷ (y + 2) ∷ []
operation_bytes numbers base u s at (Difference x y z next) = difference_bytes base u x y z
operation_bytes numbers base u s at (Call x g n next) = call_bytes base u x (numbers g) n (arguments_at s at n)
operation_bytes numbers base u s at (Goto l next) = label_jump base u.variables l
operation_bytes numbers base u s at (Return x next) = 5 ∷ 0 ∷ (x + 2) ∷ []
operation_bytes numbers base u s at (Branch y z l m next) = branch_bytes base u.variables y z l m
operation_bytes numbers base u s at (Raise next) = raise_bytes base u
operation_bytes numbers base u s at (RaiseValue y next) = raise_value_bytes base u y
operation_bytes numbers base u s at (Refused r) = []

-- How many bytes these are.
unfoldable pub call_size : Under → ℕ → ℕ
call_size u n = cond (eqb u.handler 0) (5 + (6 + n)) (8 + size_if_any u.number_slot 1 + ((6 + n) + (6 + u.variables)))

abbrev pub operation_size : Under → Operation → ℕ
operation_size u (Constant x i next) = 6
operation_size u (Copy x y next) = 3
operation_size u (Difference x y z next) = 6 + raise_size u
operation_size u (Call x g n next) = call_size u n
operation_size u (Goto l next) = 6 + u.variables
operation_size u (Return x next) = 3
operation_size u (Branch y z l m next) = 5 + ((6 + u.variables) + (6 + u.variables))
operation_size u (Raise next) = raise_size u
operation_size u (RaiseValue y next) = raise_value_size u
operation_size u (Refused r) = 0
