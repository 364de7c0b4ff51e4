-- The turns of the loop that counts a block's operations.
use Rattle.std.specs.Prelude.{ℕ, ◌+◌, ◌*◌, ◌≤◌, ◌<◌, ◌≡◌, List, length}
use Rattle.std.proofs.Common.{arith, sym, ap, ◌∙◌, subst, length-append}
use Rattle.parsing.specs.declared.Refusal.{Refusal}
use Rattle.semantics.specs.Translation.{number}
use Rattle.procedure_operations.specs.declared.operation.Operation.{Operation}
use Rattle.procedure_operations.specs.declared.operation.Operation.TheVariants.{Constant, Copy, Difference, Call, Goto, Return, Branch, Raise, RaiseValue, Refused}
use Rattle.procedure_layout.specs.declared.layout.After.{After}
use Rattle.procedure_layout.specs.declared.layout.After.TheVariants.{Onward, Ended, Halted}
use Rattle.procedure_operations.specs.Operation.{operation_at}
use Rattle.procedure_layout.specs.After.{after_of}
use Rattle.procedure_file.specs.Check.{program_of}
use Rattle.translator_bytes.specs.Bytes.{operation_bytes, operation_size}
use Rattle.translator_bytes.specs.declared.jumps.Under.{Under}
use Rattle.translator_sizes.specs.Parts.{bytes_at}
use Rattle.translator_sizes.specs.Asked.{OperationInFile, CountInRange, BlockSize}
use Rattle.translator_sizes.specs.OperationLaws.{Fine, variables_bound, within, fine, of_bound, operation_size_lem, following, split_at}

-- An operation does not end the block: the next one stands where it leads.
pub goes_on : {s : List ℕ} {v at m : ℕ} → OperationInFile s v at → after_of (operation_at s at) ≡ Onward m → OperationInFile s v m
goes_on {s} {v} {at} {m} H e = record { invariant = H.invariant; function = H.function; stands = H.invariant.next H.function at m H.stands e; vars = H.vars }

pub never_halts : {s : List ℕ} {v at : ℕ} {r : Refusal} {A : Type 0} → OperationInFile s v at → after_of (operation_at s at) ≡ Halted r → A
never_halts {s} {v} {at} {r} {A} H e = go (operation_at s at) (fine H) e
  where
    go : (o : Operation) → Fine s at o → after_of o ≡ Halted r → A
    go (Constant x i next) f q = let z : ◌≡◌ {A = ℕ} 0 1 = cc in absurd (omega arith)
    go (Copy x y next) f q = let z : ◌≡◌ {A = ℕ} 0 1 = cc in absurd (omega arith)
    go (Difference x y z next) f q = let z : ◌≡◌ {A = ℕ} 0 1 = cc in absurd (omega arith)
    go (Call x g n next) f q = let z : ◌≡◌ {A = ℕ} 0 1 = cc in absurd (omega arith)
    go (Goto l next) f q = let z : ◌≡◌ {A = ℕ} 0 1 = cc in absurd (omega arith)
    go (Return x next) f q = let z : ◌≡◌ {A = ℕ} 0 1 = cc in absurd (omega arith)
    go (Branch y z l m next) f q = let z : ◌≡◌ {A = ℕ} 0 1 = cc in absurd (omega arith)
    go (Raise next) f q = let z : ◌≡◌ {A = ℕ} 0 1 = cc in absurd (omega arith)
    go (RaiseValue y next) f q = let z : ◌≡◌ {A = ℕ} 0 1 = cc in absurd (omega arith)
    go (Refused r) f q = absurd f

-- Counting a block: n bytes for the operations passed.
pub record Counting (s : List ℕ) (u : Under) (start at n : ℕ) : Type 0 where
  pub here : OperationInFile s u.variables at
  pub is : (base : ℕ) → n + length (bytes_at s base u at) ≡ length (bytes_at s base u start)
  pub size_bound : n ≤ 128 * at

pub count_none : {s : List ℕ} {u : Under} {start : ℕ} → OperationInFile s u.variables start → Counting s u start start 0
count_none {s} {u} {start} H = record { here = H; is = λ base. omega arith; size_bound = omega arith }

module _ {s : List ℕ} {u : Under} {start at n : ℕ} (T : Counting s u start at n) {x : Operation} (e : x ≡ operation_at s at) where
  pub count_asks : (u.variables ≤ 32) × CountInRange x
  count_asks = (variables_bound T.here, subst CountInRange (sym e) (of_bound s at (operation_at s at) (fine T.here)))

  pub count_bound_lem : n ≤ 4194304
  count_bound_lem =
      let k : n ≤ 128 * at = T.size_bound in
      let i : at < length s = within T.here in
      let j : length s ≤ 32768 = T.here.invariant.file_bound in
      omega arith

  module _ {k : ℕ} (ek : k ≡ operation_size u x) (operation_bound : k ≤ 128) {a : After} (ea : a ≡ after_of x) where
    after_was : after_of (operation_at s at) ≡ a
    after_was = ap after_of (sym e) ∙ sym ea

    sizes_are : (base : ℕ) → n + k + length (following a (λ m. bytes_at s base u m)) ≡ length (bytes_at s base u start)
    sizes_are base =
        let H = T.here in
        let w = operation_bytes (number (program_of s)) base u s at (operation_at s at) in
        let rest = following (after_of (operation_at s at)) (λ m. bytes_at s base u m) in
        let p : length (bytes_at s base u at) ≡ length w + length rest = ap length (split_at base u H) ∙ length-append w rest in
        let q : length w ≡ k = operation_size_lem (number (program_of s)) base u s at (operation_at s at) (fine H) ∙ (ap (operation_size u) (sym e) ∙ sym ek) in
        let t : n + length (bytes_at s base u at) ≡ length (bytes_at s base u start) = T.is base in
        let y : length rest ≡ length (following a (λ m. bytes_at s base u m)) = ap (λ (b : After). length (following b (λ m. bytes_at s base u m))) after_was in
        omega arith

    pub count_next : {m : ℕ} → a ≡ Onward m → Counting s u start m (n + k)
    count_next {m} q =
        let H = T.here in
        let f = H.invariant.forward H.function at m H.stands (after_was ∙ q) in
        let j : at < m = f.0 in
        let g : n ≤ 128 * at = T.size_bound in
        record {
          here = goes_on H (after_was ∙ q);
          is = λ base. subst (λ (b : After). n + k + length (following b (λ i. bytes_at s base u i)) ≡ length (bytes_at s base u start)) q (sizes_are base);
          size_bound = omega arith;
        }

    pub count_moves : {m : ℕ} → a ≡ Onward m → (at < m) × (m ≤ length s)
    count_moves {m} q = let H = T.here in H.invariant.forward H.function at m H.stands (after_was ∙ q)

    pub count_done : {m : ℕ} → a ≡ Ended m → BlockSize s u start (n + k)
    count_done {m} q =
        let g : n ≤ 128 * at = T.size_bound in
        let i : at < length s = within T.here in
        let j : length s ≤ 32768 = T.here.invariant.file_bound in
        record {
          is = λ base.
              let t : n + k + 0 ≡ length (bytes_at s base u start) = subst (λ (b : After). n + k + length (following b (λ i. bytes_at s base u i)) ≡ length (bytes_at s base u start)) q (sizes_are base) in
              omega arith;
          size_bound = omega arith;
        }

    pub count_never : {f : Refusal} {A : Type 0} → a ≡ Halted f → A
    count_never q = never_halts T.here (after_was ∙ q)
