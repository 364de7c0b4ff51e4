-- What the number and the argument count of an operation tell, for crates above.
use Rattle.std.specs.Prelude.{ℕ, ◌≤◌, ◌<◌, ◌≡◌, refl, List, get_or}
use Rattle.std.proofs.Common.{arith}
use Rattle.parsing.specs.declared.Refusal.{Refusal}
use Rattle.procedure_operations.specs.declared.operation.Operation.{Operation}
use Rattle.procedure_operations.specs.declared.operation.Operation.TheVariants.{Constant, Copy, Difference, Call, Goto, Return, Branch, Raise, RaiseValue, Refused}
use Rattle.procedure_operations.specs.Operation.{arguments_at}
use Rattle.procedure_operations.specs.Ranges.{NumbersInRange}
use Rattle.procedure_fields.specs.Number.{number_of, count_of}

-- The numbers of operations are 1 to 9.
pub number_known : (o : Operation) → ((r : Refusal) → o ≡ Refused r → ⊥) → (1 ≤ number_of o) × (number_of o ≤ 9)
unfolding number_of
number_known (Constant x v n) h = (omega arith, omega arith)
number_known (Copy x y n) h = (omega arith, omega arith)
number_known (Difference x y z n) h = (omega arith, omega arith)
number_known (Call x g k n) h = (omega arith, omega arith)
number_known (Goto l n) h = (omega arith, omega arith)
number_known (Return x n) h = (omega arith, omega arith)
number_known (Branch y z l m n) h = (omega arith, omega arith)
number_known (Raise n) h = (omega arith, omega arith)
number_known (RaiseValue x n) h = (omega arith, omega arith)
number_known (Refused r) h = absurd (h r refl)

-- 8 is raise.
pub raise_known : (o : Operation) → number_of o ≡ 8 → (next : ℕ) × (o ≡ Raise next)
unfolding number_of
raise_known (Constant x v n) e = absurd (omega (arith, e))
raise_known (Copy x y n) e = absurd (omega (arith, e))
raise_known (Difference x y z n) e = absurd (omega (arith, e))
raise_known (Call x g k n) e = absurd (omega (arith, e))
raise_known (Goto l n) e = absurd (omega (arith, e))
raise_known (Return x n) e = absurd (omega (arith, e))
raise_known (Branch y z l m n) e = absurd (omega (arith, e))
raise_known (Raise n) e = (n, refl)
raise_known (RaiseValue x n) e = absurd (omega (arith, e))
raise_known (Refused r) e = absurd (omega (arith, e))

-- The arguments of a call are in range.
pub argument_in_range : (s : List ℕ) (at : ℕ) (o : Operation) → NumbersInRange s at o → (i : ℕ) → i < count_of o → get_or (arguments_at s at (count_of o)) i 0 < 32
unfolding count_of
argument_in_range s at (Constant x v n) r i h = absurd (omega (arith, h))
argument_in_range s at (Copy x y n) r i h = absurd (omega (arith, h))
argument_in_range s at (Difference x y z n) r i h = absurd (omega (arith, h))
argument_in_range s at (Call x g k n) r i h = r.2 i h
argument_in_range s at (Goto l n) r i h = absurd (omega (arith, h))
argument_in_range s at (Return x n) r i h = absurd (omega (arith, h))
argument_in_range s at (Branch y z l m n) r i h = absurd (omega (arith, h))
argument_in_range s at (Raise n) r i h = absurd (omega (arith, h))
argument_in_range s at (RaiseValue x n) r i h = absurd (omega (arith, h))
argument_in_range s at (Refused e) r i h = absurd (omega (arith, h))
