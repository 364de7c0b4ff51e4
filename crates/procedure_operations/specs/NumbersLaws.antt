-- Numbers that were found, or were not.
use Rattle.std.specs.Prelude.{ℕ, ◌≤◌, ◌<◌, ◌≡◌, Bool, None, Option, Some}
use Rattle.std.proofs.Math.Path.{refl}
use Rattle.std.proofs.Common.{sym, ap, ◌∙◌}
use Rattle.std.proofs.Math.Bool.{true, false, cond}
use borrow.Author.Tests.{ltb-true, ltb-false}
use Rattle.std.proofs.Math.Dec.{ltb}
use Rattle.parsing.specs.declared.reason.Reason.{Reason}
use Rattle.parsing.specs.declared.reason.Reason.TheVariants.{MissingVariable, MissingFunction}
use Rattle.parsing.specs.ParserLaws.{impossible}
use Rattle.procedure_operations.specs.declared.numbers.FunctionNumber.{FunctionNumber}
use Rattle.procedure_operations.specs.declared.numbers.VariableNumber.{VariableNumber}
use Rattle.procedure_operations.specs.Numbers.{there, missing, found, function_as, variable_as}

module _ (x n : ℕ) where
  found_there : (k : Reason) {y : ℕ} → there y ≡ found k x n → (y ≡ x) × (x < n)
  unfolding found
  found_there k {y} e = go (ltb x n) refl e
    where
      go : (t : Bool) → ltb x n ≡ t → there y ≡ cond t (there x) (missing k) → (y ≡ x) × (x < n)
      go true l w = (cc, ltb-true x n l)
      go false l w = impossible (cc)

  found_missing : (k : Reason) {j : Reason} → missing j ≡ found k x n → n ≤ x
  unfolding found
  found_missing k {j} e = go (ltb x n) refl e
    where
      go : (t : Bool) → ltb x n ≡ t → missing j ≡ cond t (there x) (missing k) → n ≤ x
      go true l w = impossible (cc)
      go false l w = ltb-false x n l

  module _ (r : Option FunctionNumber) (e : function_as r ≡ found MissingFunction x n) where
    pub function_is : (g : FunctionNumber) → r ≡ Some g → (g.0 ≡ x) × (x < n)
    function_is g q = found_there MissingFunction (sym (ap function_as q) ∙ e)

    pub function_none : r ≡ None → n ≤ x
    function_none q = found_missing MissingFunction (sym (ap function_as q) ∙ e)

  module _ (r : Option VariableNumber) (e : variable_as r ≡ found MissingVariable x n) where
    pub variable_is : (y : VariableNumber) → r ≡ Some y → (y.0 ≡ x) × (x < n)
    variable_is y q = found_there MissingVariable (sym (ap variable_as q) ∙ e)

    pub variable_none : r ≡ None → n ≤ x
    variable_none q = found_missing MissingVariable (sym (ap variable_as q) ∙ e)
