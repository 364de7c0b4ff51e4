-- The names of the one operation at an offset, in reading order.
use Rattle.std.specs.Prelude.{ℕ, ◌+◌, List, [], ◌∷◌}
use Rattle.procedure_operations.specs.declared.operation.Operation.{Operation}
use Rattle.procedure_operations.specs.declared.operation.Operation.TheVariants.{Constant, Copy, Difference, Call, Goto, Return, Branch, Raise, RaiseValue, Refused}
use Rattle.procedure_layout.specs.Layout.{arguments_at}
use Rattle.procedure_names.specs.Names.{Name, variable, label, function, arity, arguments}

abbrev pub operation_names : List ℕ → ℕ → ℕ → List ℕ → ℕ → Operation → List Name
operation_names ps v n s at (Constant x i next) = variable v (at + 1) x ∷ []
operation_names ps v n s at (Copy x y next) = variable v (at + 1) x ∷ variable v (at + 2) y ∷ []
operation_names ps v n s at (Difference x y z next) =
    variable v (at + 1) x ∷ variable v (at + 2) y ∷ variable v (at + 3) z ∷ []
operation_names ps v n s at (Call x g k next) =
    variable v (at + 1) x ∷ function ps (at + 2) g ∷ arity ps (at + 3) g k ∷ arguments v (at + 4) (arguments_at s at k)
operation_names ps v n s at (Goto l next) = label n (at + 1) l ∷ []
operation_names ps v n s at (Return x next) = variable v (at + 1) x ∷ []
operation_names ps v n s at (Branch y z l m next) =
    variable v (at + 1) y ∷ variable v (at + 2) z ∷ label n (at + 3) l ∷ label n (at + 4) m ∷ []
operation_names ps v n s at (Raise next) = []
operation_names ps v n s at (RaiseValue x next) = variable v (at + 1) x ∷ []
operation_names ps v n s at (Refused r) = []
