-- A walk over the operations from an offset on is what its first operation makes of the walk from the next one.
use Rattle.std.specs.Prelude.{ℕ, zero, suc, ◌+◌, ◌≤◌, ◌<◌, ◌≡◌, refl, List, length, get_or}
use Rattle.std.proofs.Common.{sym, ap, ◌∙◌, arith}
use Rattle.std.proofs.Math.Option.{none}
use Rattle.parsing.specs.Fields.{cut, value_at}
use Rattle.semantics.specs.Program.{Block, constant, copy, difference, call, raise}
use Rattle.parsing.specs.Parser.{Parsed, refuse}
use Rattle.procedure_operations.specs.declared.operation.Operation.{Operation}
use Rattle.procedure_operations.specs.declared.operation.Operation.TheVariants.{Refused}
use Rattle.procedure_operations.specs.Operation.{operation_at}
use Rattle.procedure_layout.specs.Layout.{walk_n, walk, block_from, before, arguments_at, block}
use Rattle.procedure_layout.specs.Rest.{rest_from, rest_at}
use Rattle.procedure_operations.specs.OperationLaws.{operation_past}
use Rattle.procedure_operations.specs.ViewLaws.{View, is_constant, is_copy, is_difference, is_call, is_goto, is_return, is_branch, is_raise, is_raise_value, is_refused, view}

-- An operation makes of what follows it nothing but what it makes of the walk from its own end.
pub record Local (s : List ℕ) {A : Type 0} (step : ℕ → Operation → (ℕ → A) → A) (stop : A) : Type 0 where
  pub same : (at : ℕ) {o : Operation} → View s at o → (k l : ℕ → A) → ((m : ℕ) → at < m → k m ≡ l m) → step at o k ≡ step at o l
  pub ends : (at : ℕ) (k : ℕ → A) → step at (Refused (cut s)) k ≡ stop

module _ (s : List ℕ) {A : Type 0} (step : ℕ → Operation → (ℕ → A) → A) (stop : A) (L : Local s step stop) where
  more_fuel : (n at : ℕ) → length s ≤ n + at → walk_n s step stop n at ≡ walk_n s step stop (suc n) at
  more_fuel zero at h = sym (ap (λ o. step at o (walk_n s step stop zero)) (operation_past s at (omega arith)) ∙ L.ends at (walk_n s step stop zero))
  more_fuel (suc n) at h =
      L.same at (view s at) (walk_n s step stop n) (walk_n s step stop (suc n)) (λ m lt. more_fuel n m (omega arith))

  pub walk_law : (at : ℕ) → walk s step stop at ≡ step at (operation_at s at) (walk s step stop)
  unfolding walk
  walk_law at = more_fuel (length s) at (omega arith)

module _ (s : List ℕ) where
  block_local : Local s (block_from s) (refuse (cut s))
  block_local = record { same = same; ends = λ at k. refl }
    where
      same : (at : ℕ) {o : Operation} → View s at o → (k l : ℕ → Parsed Block) → ((m : ℕ) → at < m → k m ≡ l m) → block_from s at o k ≡ block_from s at o l
      same at (is_constant e h) k l f = ap (before _) (f _ (omega arith))
      same at (is_copy e h) k l f = ap (before _) (f _ (omega arith))
      same at (is_difference e h) k l f = ap (before _) (f _ (omega arith))
      same at (is_call e h) k l f = ap (before _) (f _ (omega arith))
      same at (is_goto e h) k l f = refl
      same at (is_return e h) k l f = refl
      same at (is_branch e h) k l f = refl
      same at (is_raise e h) k l f = refl
      same at (is_raise_value e h v) k l f = refl
      same at (is_refused r) k l f = refl

  pub block_law : (at : ℕ) → block s at ≡ block_from s at (operation_at s at) (block s)
  unfolding block
  block_law at = walk_law s (block_from s) (refuse (cut s)) block_local at

  rest_local : Local s (rest_from s) (raise none)
  rest_local = record { same = same; ends = λ at k. refl }
    where
      same : (at : ℕ) {o : Operation} → View s at o → (k l : ℕ → Block) → ((m : ℕ) → at < m → k m ≡ l m) → rest_from s at o k ≡ rest_from s at o l
      same at (is_constant e h) k l f = ap (constant (get_or s (at + 1) 0) (value_at s (at + 2))) (f (at + 6) (omega arith))
      same at (is_copy e h) k l f = ap (copy (get_or s (at + 1) 0) (get_or s (at + 2) 0)) (f (at + 3) (omega arith))
      same at (is_difference e h) k l f = ap (difference (get_or s (at + 1) 0) (get_or s (at + 2) 0) (get_or s (at + 3) 0)) (f (at + 4) (omega arith))
      same at (is_call e h) k l f = ap (call (get_or s (at + 1) 0) (get_or s (at + 2) 0) (arguments_at s at (get_or s (at + 3) 0))) (f (at + 4 + get_or s (at + 3) 0) (omega arith))
      same at (is_goto e h) k l f = refl
      same at (is_return e h) k l f = refl
      same at (is_branch e h) k l f = refl
      same at (is_raise e h) k l f = refl
      same at (is_raise_value e h v) k l f = refl
      same at (is_refused r) k l f = refl

  -- The rest of a block at an offset, by cases on the operation read there.
  pub rest_law : (at : ℕ) → rest_at s at ≡ rest_from s at (operation_at s at) (rest_at s)
  unfolding rest_at
  rest_law at = walk_law s (rest_from s) (raise none) rest_local at
