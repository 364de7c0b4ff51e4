-- What stands at an offset of an accepted file, and the bytes that it becomes before the rest of its block.
use Rattle.std.specs.Prelude.{ℕ, ◌≤◌, ◌<◌, ◌≡◌, refl, List, [], ◌++◌, length}
use Rattle.std.proofs.Common.{arith, sym, ap, ◌∙◌, subst, append-nil}
use Rattle.semantics.specs.Program.{Program, variables, function_of}
use Rattle.semantics.specs.WellFormed.{WellFormedBlock}
use Rattle.semantics.specs.Translation.{number}
use Rattle.procedure_operations.specs.declared.operation.Operation.{Operation}
use Rattle.procedure_operations.specs.declared.operation.Operation.TheVariants.{Constant, Copy, Difference, Call, Goto, Return, Branch, Raise, RaiseValue, Refused}
use Rattle.procedure_layout.specs.declared.layout.After.{After}
use Rattle.procedure_layout.specs.declared.layout.After.TheVariants.{Onward, Ended, Halted}
use Rattle.procedure_operations.specs.Operation.{operation_at}
use Rattle.procedure_layout.specs.Layout.{arguments_at}
use Rattle.procedure_layout.specs.Rest.{rest_from, rest_at}
use Rattle.procedure_layout.specs.After.{after_of}
use Rattle.procedure_file.specs.Check.{program_of}
use Rattle.translator_bytes.specs.declared.jumps.Under.{Under}
use Rattle.translator_bytes.specs.Bytes.{label_jump, branch_bytes, raise_bytes, raise_value_bytes, call_bytes, operation_bytes, operation_size}
use Rattle.translator_bytes.proofs.LengthLaws.{label_size}
use Rattle.translator_sizes.specs.Parts.{body_bytes, bytes_at}
use Rattle.translator_sizes.specs.Asked.{OperationInFile, CountInRange}
use Rattle.translator_sizes.specs.SizeLaws.{called_size, branch_size, raise_size_lem, raise_value_size_lem, difference_size}

-- What a call's callee and arguments are; no operation is a refusal.
abbrev pub Fine : List ℕ → ℕ → Operation → Type 0
Fine s at (Constant x i next) = Unit {0}
Fine s at (Copy x y next) = Unit {0}
Fine s at (Difference x y z next) = Unit {0}
Fine s at (Call x g n next) = (g < length (program_of s)) × (n ≤ 32) × (length (arguments_at s at n) ≡ n)
Fine s at (Goto l next) = Unit {0}
Fine s at (Return x next) = Unit {0}
Fine s at (Branch y z l m next) = Unit {0}
Fine s at (Raise next) = Unit {0}
Fine s at (RaiseValue y next) = Unit {0}
Fine s at (Refused r) = ⊥

module _ {s : List ℕ} {v at : ℕ} (H : OperationInFile s v at) where
  pub variables_bound : v ≤ 32
  variables_bound =
      let k = H.invariant.counts H.function H.stands.there in
      let e : v ≡ variables (function_of (program_of s) H.function) = H.vars in
      let p : (function_of (program_of s) H.function).params ≤ 8 = k.params in
      let l : (function_of (program_of s) H.function).locals ≤ 24 = k.locals in
      omega arith

  pub within : at < length s
  within = H.invariant.inside H.function at H.stands

  pub fine : Fine s at (operation_at s at)
  fine = go (operation_at s at) refl (subst (WellFormedBlock P w n) (H.invariant.rest at) H.stands.formed)
    where
      P : Program
      P = program_of s

      w : ℕ
      w = variables (function_of P H.function)

      n : ℕ
      n = length (function_of P H.function).blocks

      go : (o : Operation) → operation_at s at ≡ o → WellFormedBlock P w n (rest_from s at o (rest_at s)) → Fine s at o
      go (Constant x i next) q f = tt
      go (Copy x y next) q f = tt
      go (Difference x y z next) q f = tt
      go (Call x g k next) q f =
          let c : length (arguments_at s at k) ≡ k = H.invariant.called at x g k next q in
          let p : (function_of P g).params ≤ 8 = (H.invariant.counts g f.1).params in
          let m : length (arguments_at s at k) ≡ (function_of P g).params = f.2 in
          (f.1, omega arith, c)
      go (Goto l next) q f = tt
      go (Return x next) q f = tt
      go (Branch y z l m next) q f = tt
      go (Raise next) q f = tt
      go (RaiseValue y next) q f = tt
      go (Refused r) q f = H.invariant.operation H.function at r H.stands q

pub of_bound : (s : List ℕ) (at : ℕ) (o : Operation) → Fine s at o → CountInRange o
of_bound s at (Constant x i next) f = tt
of_bound s at (Copy x y next) f = tt
of_bound s at (Difference x y z next) f = tt
of_bound s at (Call x g n next) f = f.1
of_bound s at (Goto l next) f = tt
of_bound s at (Return x next) f = tt
of_bound s at (Branch y z l m next) f = tt
of_bound s at (Raise next) f = tt
of_bound s at (RaiseValue y next) f = tt
of_bound s at (Refused r) f = tt

-- The size of what an operation becomes.
pub operation_size_lem : (ns : ℕ → ℕ) (base : ℕ) (u : Under) (s : List ℕ) (at : ℕ) (o : Operation) → Fine s at o
    → length (operation_bytes ns base u s at o) ≡ operation_size u o
operation_size_lem ns base u s at (Constant x i next) f = refl
operation_size_lem ns base u s at (Copy x y next) f = refl
operation_size_lem ns base u s at (Difference x y z next) f = difference_size base u x y z
operation_size_lem ns base u s at (Call x g n next) f = called_size base u x (ns g) n (arguments_at s at n) f.2
operation_size_lem ns base u s at (Goto l next) f = label_size base u.variables l
operation_size_lem ns base u s at (Return x next) f = refl
operation_size_lem ns base u s at (Branch y z l m next) f = branch_size base u.variables y z l m
operation_size_lem ns base u s at (Raise next) f = raise_size_lem base u
operation_size_lem ns base u s at (RaiseValue y next) f = raise_value_size_lem base u y
operation_size_lem ns base u s at (Refused r) f = refl

-- The bytes of what follows an operation.
abbrev pub following : After → (ℕ → List ℕ) → List ℕ
following (Onward next) rest = rest next
following (Ended next) rest = []
following (Halted r) rest = []

-- What the operation becomes, and what follows.
split : (ns : ℕ → ℕ) (base : ℕ) (u : Under) (s : List ℕ) (at : ℕ) (o : Operation) → Fine s at o
    → body_bytes ns base u (rest_from s at o (rest_at s)) ≡ operation_bytes ns base u s at o ++ following (after_of o) (λ m. body_bytes ns base u (rest_at s m))
split ns base u s at (Constant x i next) f = refl
split ns base u s at (Copy x y next) f = refl
split ns base u s at (Difference x y z next) f = refl
split ns base u s at (Call x g n next) f = ap (λ (k : ℕ). call_bytes base u x (ns g) k (arguments_at s at n) ++ body_bytes ns base u (rest_at s next)) f.2
split ns base u s at (Goto l next) f = sym (append-nil (label_jump base u.variables l))
split ns base u s at (Return x next) f = refl
split ns base u s at (Branch y z l m next) f = sym (append-nil (branch_bytes base u.variables y z l m))
split ns base u s at (Raise next) f = sym (append-nil (raise_bytes base u))
split ns base u s at (RaiseValue y next) f = sym (append-nil (raise_value_bytes base u y))
split ns base u s at (Refused r) f = absurd f

pub split_at : {s : List ℕ} {v at : ℕ} (base : ℕ) (u : Under) → OperationInFile s v at
    → bytes_at s base u at ≡ operation_bytes (number (program_of s)) base u s at (operation_at s at) ++ following (after_of (operation_at s at)) (λ m. bytes_at s base u m)
unfolding bytes_at
split_at {s} {v} {at} base u H =
    ap (body_bytes (number (program_of s)) base u) (H.invariant.rest at) ∙ split (number (program_of s)) base u s at (operation_at s at) (fine H)
