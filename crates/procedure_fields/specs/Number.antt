-- The number of an operation, by its form (document 01, 'The procedure file'; 9 document 02, Slip 7), and the argument count of a call.
use Rattle.std.specs.Prelude.{ℕ}
use Rattle.procedure_operations.specs.declared.operation.Operation.{Operation}
use Rattle.procedure_operations.specs.declared.operation.Operation.TheVariants.{Constant, Copy, Difference, Call, Goto, Return, Branch, Raise, RaiseValue, Refused}

-- 0 where none stands.
unfoldable pub number_of : Operation → ℕ
number_of (Constant x i n) = 1
number_of (Copy x y n) = 2
number_of (Difference x y z n) = 3
number_of (Call x g k n) = 4
number_of (Goto l n) = 5
number_of (Return x n) = 6
number_of (Branch y z l m n) = 7
number_of (Raise n) = 8
number_of (RaiseValue x n) = 9
number_of (Refused r) = 0

-- 0 of an operation that is no call.
unfoldable pub count_of : Operation → ℕ
count_of (Constant x i n) = 0
count_of (Copy x y n) = 0
count_of (Difference x y z n) = 0
count_of (Call x g k n) = k
count_of (Goto l n) = 0
count_of (Return x n) = 0
count_of (Branch y z l m n) = 0
count_of (Raise n) = 0
count_of (RaiseValue x n) = 0
count_of (Refused r) = 0
