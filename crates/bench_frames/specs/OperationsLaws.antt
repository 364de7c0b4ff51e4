-- What an operation that stands at an offset tells of the rest of its block.
use Rattle.std.specs.Prelude.{ℕ, ◌≡◌, refl, List}
use Rattle.std.proofs.Common.{ap, ◌∙◌}
use Rattle.procedure_operations.specs.declared.operation.Operation.{Operation}
use Rattle.procedure_operations.specs.declared.operation.Operation.TheVariants.{Constant, Copy, Difference, Call, Goto, Return, Branch, Raise, RaiseValue, Refused}
use Rattle.procedure_operations.specs.Operation.{operation_at}
use Rattle.procedure_layout.specs.Rest.{rest_at, rest_from}
use Rattle.procedure_layout.specs.After.{after_of}
use Rattle.procedure_file.specs.FileInvariant.{FileInvariant, OperationsAt}

-- Where the block goes on behind an operation that does not end it.
abbrev pub GoesOn : List ℕ → ℕ → Operation → Type 0
GoesOn s f (Constant x i next) = OperationsAt s f next
GoesOn s f (Copy x y next) = OperationsAt s f next
GoesOn s f (Difference x y z next) = OperationsAt s f next
GoesOn s f (Call x g n next) = OperationsAt s f next
GoesOn s f (Goto l next) = Unit {0}
GoesOn s f (Return x next) = Unit {0}
GoesOn s f (Branch y z l m next) = Unit {0}
GoesOn s f (Raise next) = Unit {0}
GoesOn s f (RaiseValue x next) = Unit {0}
GoesOn s f (Refused r) = ⊥

pub goes_on : {s : List ℕ} {f at : ℕ} → FileInvariant s → OperationsAt s f at → GoesOn s f (operation_at s at)
goes_on {s} {f} {at} F S = by (operation_at s at) refl
  where
    by : (o : Operation) → operation_at s at ≡ o → GoesOn s f o
    by (Constant x i next) e = F.next f at next S (ap after_of e)
    by (Copy x y next) e = F.next f at next S (ap after_of e)
    by (Difference x y z next) e = F.next f at next S (ap after_of e)
    by (Call x g n next) e = F.next f at next S (ap after_of e)
    by (Goto l next) e = tt
    by (Return x next) e = tt
    by (Branch y z l m next) e = tt
    by (Raise next) e = tt
    by (RaiseValue x next) e = tt
    by (Refused r) e = F.operation f at r S e

-- The rest of the block, once the operation is known.
pub rest_is : {s : List ℕ} → FileInvariant s → (at : ℕ) (o : Operation) → operation_at s at ≡ o → rest_at s at ≡ rest_from s at o (rest_at s)
rest_is {s} F at o e = F.rest at ∙ ap (λ (x : Operation). rest_from s at x (rest_at s)) e
