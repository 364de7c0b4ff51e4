-- The turns of the loop that writes a block's operations.
use Rattle.std.specs.Prelude.{ℕ, ◌≤◌, ◌<◌, ◌≡◌, List, ◌++◌, ◌≢◌, length, get_or}
use Rattle.std.proofs.Common.{arith, ap, ◌∙◌, subst}
use Rattle.std.proofs.Math.Path.{refl, sym}
use Rattle.parsing.specs.declared.Refusal.{Refusal}
use Rattle.semantics.specs.Translation.{number}
use Rattle.procedure_operations.specs.declared.operation.Operation.{Operation}
use Rattle.procedure_operations.specs.declared.operation.Operation.TheVariants.{Constant, Copy, Difference, Call, Goto, Return, Branch, Raise, RaiseValue, Refused}
use Rattle.procedure_layout.specs.declared.layout.After.{After}
use Rattle.procedure_layout.specs.declared.layout.After.TheVariants.{Onward, Ended, Halted}
use Rattle.procedure_operations.specs.Operation.{operation_at, arguments_at}
use Rattle.procedure_operations.specs.Ranges.{NumbersInRange}
use Rattle.procedure_fields.specs.Number.{number_of, count_of}
use Rattle.procedure_fields.specs.NumberLaws.{number_known, raise_known}
use Rattle.procedure_layout.specs.After.{after_of}
use Rattle.procedure_file.specs.Check.{program_of}
use Rattle.translator_bytes.specs.Bytes.{tabled, operation_bytes, operation_size}
use Rattle.translator_bytes.specs.declared.jumps.Under.{Under}
use Rattle.translator_sizes.specs.Parts.{bytes_at}
use Rattle.byte_writers.specs.Writes.{Room, Wrote}
use Rattle.translator_bytes.specs.Writes.{CallInFile}
use Rattle.byte_writers.specs.WriteLaws.{room_as, room_front, Rest, rest_none, rest_as, rest_more, rest_done}
use Rattle.translator.specs.Asked.{Numbered, Placed}
use Rattle.translator_sizes.specs.OperationLaws.{Fine, fine, following, split_at, operation_size_lem}
use Rattle.translator_sizes.specs.CountLaws.{goes_on, never_halts}
use Rattle.translator_bytes.specs.Bytes.{call_bytes}

-- The table gives the same bytes as the translation's numbers.
pub same_numbers : (s ns : List ℕ) → Numbered s ns → (base : ℕ) (u : Under) (at : ℕ) (o : Operation) → Fine s at o
    → operation_bytes (tabled ns) base u s at o ≡ operation_bytes (number (program_of s)) base u s at o
same_numbers s ns N base u at (Constant x i next) f = refl
same_numbers s ns N base u at (Copy x y next) f = refl
same_numbers s ns N base u at (Difference x y z next) f = refl
same_numbers s ns N base u at (Call x g n next) f = ap (λ (k : ℕ). call_bytes base u x k n (arguments_at s at n)) (N g f.0)
same_numbers s ns N base u at (Goto l next) f = refl
same_numbers s ns N base u at (Return x next) f = refl
same_numbers s ns N base u at (Branch y z l m next) f = refl
same_numbers s ns N base u at (Raise next) f = refl
same_numbers s ns N base u at (RaiseValue y next) f = refl
same_numbers s ns N base u at (Refused r) f = refl

-- Writing a block: after some operations.
pub record Turn (s ns : List ℕ) (base : ℕ) (u : Under) (start o₀ : ℕ) (d₀ : List ℕ) (at o : ℕ) (d : List ℕ) : Type 0 where
  pub placed : Placed s ns base u.variables at
  pub rest : Rest o₀ (bytes_at s base u start) d₀ o (bytes_at s base u at) d

pub turn_none : {s ns : List ℕ} {base : ℕ} {u : Under} {start o : ℕ} {d : List ℕ} → Placed s ns base u.variables start → Room o (length (bytes_at s base u start)) d
    → Turn s ns base u start o d start o d
turn_none P R = record { placed = P; rest = rest_none R }

module _ {s ns : List ℕ} {base : ℕ} {u : Under} {start o₀ : ℕ} {d₀ : List ℕ} {at o : ℕ} {d : List ℕ} (T : Turn s ns base u start o₀ d₀ at o d) where
  -- What the operation becomes, and what follows.
  parts : bytes_at s base u at ≡ operation_bytes (tabled ns) base u s at (operation_at s at) ++ following (after_of (operation_at s at)) (λ m. bytes_at s base u m)
  parts =
      let H = T.placed.here in
      split_at base u H
      ∙ ap (λ (w : List ℕ). w ++ following (after_of (operation_at s at)) (λ m. bytes_at s base u m)) (sym (same_numbers s ns T.placed.numbered base u at (operation_at s at) (fine H)))

  pub turn_size : length (operation_bytes (tabled ns) base u s at (operation_at s at)) ≡ operation_size u (operation_at s at)
  turn_size = operation_size_lem (tabled ns) base u s at (operation_at s at) (fine T.placed.here)

  pub turn_room : Room o (operation_size u (operation_at s at)) d
  turn_room = room_as (sym turn_size) (room_front (operation_bytes (tabled ns) base u s at (operation_at s at)) (following (after_of (operation_at s at)) (λ m. bytes_at s base u m)) (rest_as T.rest _ parts))

  module _ {r : ℕ} {d' : List ℕ} (W : Wrote o (operation_bytes (tabled ns) base u s at (operation_at s at)) d r d') {x : Operation} (e : x ≡ operation_at s at) {a : After} (ea : a ≡ after_of x) where
    after_is : after_of (operation_at s at) ≡ a
    after_is = ap after_of (sym e) ∙ sym ea

    rest_is : Rest o₀ (bytes_at s base u start) d₀ r (following a (λ m. bytes_at s base u m)) d'
    rest_is =
        subst (λ (b : After). Rest o₀ (bytes_at s base u start) d₀ r (following b (λ m. bytes_at s base u m)) d') after_is
        (rest_more T.rest (operation_bytes (tabled ns) base u s at (operation_at s at)) (following (after_of (operation_at s at)) (λ m. bytes_at s base u m)) parts W)

    pub turn_next : {m : ℕ} → a ≡ Onward m → Turn s ns base u start o₀ d₀ m r d'
    turn_next {m} q =
        record {
          placed = record { here = goes_on T.placed.here (after_is ∙ q); numbered = T.placed.numbered; base_bound = T.placed.base_bound };
          rest = subst (λ (b : After). Rest o₀ (bytes_at s base u start) d₀ r (following b (λ k. bytes_at s base u k)) d') q rest_is;
        }

    pub turn_moves : {m : ℕ} → a ≡ Onward m → (at < m) × (m ≤ length s)
    turn_moves {m} q = let H = T.placed.here in H.invariant.forward H.function at m H.stands (after_is ∙ q)

    pub turn_done : {m : ℕ} → a ≡ Ended m → Wrote o₀ (bytes_at s base u start) d₀ r d'
    turn_done {m} q =
        rest_done (subst (λ (b : After). Rest o₀ (bytes_at s base u start) d₀ r (following b (λ k. bytes_at s base u k)) d') q rest_is) refl

    pub turn_never : {f : Refusal} {A : Type 0} → a ≡ Halted f → A
    turn_never q = never_halts T.placed.here (after_is ∙ q)

-- A number from 1 to 9 that is none of 1 to 7 and 9.
fourth : {k : ℕ} → 1 ≤ k → k ≢ 1 → k ≢ 2 → k ≢ 3 → 4 ≤ k
fourth l a b c = omega arith

eighth : {k : ℕ} → 4 ≤ k → k ≤ 9 → k ≢ 4 → k ≢ 5 → k ≢ 6 → k ≢ 7 → k ≢ 9 → k ≡ 8
eighth l u d f g h i = omega arith

-- The arm of an operation.
module _ {s ns : List ℕ} {base v at : ℕ} (P : Placed s ns base v at) where
  pub arm_numbers : {y : Operation} → operation_at s at ≡ y → NumbersInRange s at y
  arm_numbers {y} e = let H = P.here in H.invariant.numbers H.function at y H.stands e

  pub arm_number : (1 ≤ number_of (operation_at s at)) × (number_of (operation_at s at) ≤ 9)
  arm_number = let H = P.here in number_known (operation_at s at) (λ r. H.invariant.operation H.function at r H.stands)

  -- The last arm.
  pub arm_raise : {k : ℕ} → k ≡ number_of (operation_at s at) → k ≢ 1 → k ≢ 2 → k ≢ 3 → k ≢ 4 → k ≢ 5 → k ≢ 6 → k ≢ 7 → k ≢ 9 → (next : ℕ) × (operation_at s at ≡ Raise next)
  arm_raise {k} e a b c d f g h i = raise_known (operation_at s at) (sym e ∙ eighth (fourth (omega (arith, arm_number.0)) a b c) (omega (arith, arm_number.1)) d f g h i)

  module _ {x g n m : ℕ} (e : operation_at s at ≡ Call x g n m) where
    fine_call : Fine s at (Call x g n m)
    fine_call = subst (Fine s at) e (fine P.here)

    pub call_stands : CallInFile s at n
    unfolding count_of
    call_stands = record { count = sym (ap count_of e); long = fine_call.2; numbers = arm_numbers refl }

    pub call_count : n ≤ 32
    call_count = fine_call.1

pub arm_room : (u : Under) {x y : Operation} → x ≡ y → {o : ℕ} {d : List ℕ} → Room o (operation_size u x) d → Room o (operation_size u y) d
arm_room u q R = room_as (ap (operation_size u) (sym q)) R

module _ (s ns : List ℕ) (base : ℕ) (u : Under) (at : ℕ) {x y : Operation} (q : x ≡ y) where
  pub arm_wrote : {o r : ℕ} {d d' : List ℕ} → Wrote o (operation_bytes (tabled ns) base u s at y) d r d' → Wrote o (operation_bytes (tabled ns) base u s at x) d r d'
  arm_wrote {o} {r} {d} {d'} W = subst (λ (z : Operation). Wrote o (operation_bytes (tabled ns) base u s at z) d r d') (sym q) W

-- A callee's number, read at the index i that its function has.
pub callee_is : (base : ℕ) (u : Under) (x n g i k : ℕ) (ns ys : List ℕ) → i ≡ g → k ≡ get_or ns i 0 → call_bytes base u x (tabled ns g) n ys ≡ call_bytes base u x k n ys
callee_is base u x n g i k ns ys e q = ap (λ (j : ℕ). call_bytes base u x j n ys) (ap (λ (j : ℕ). get_or ns j 0) (sym e) ∙ sym q)
