-- One law an operation, as the code has it: what its function answers is the rules' step.
use Rattle.std.specs.Prelude.{ℕ, suc, ◌+◌, ◌<◌, ◌≡◌, Bool, true, false, cond, ℤ, pos, ◌-ℤ◌, length, get_or, set, take}
use Rattle.std.proofs.Common.{arith, ◌∙◌, subst, length-set}
use Rattle.std.proofs.Math.Path.{refl, sym, ap, ap₂}
use mathlib.Core.List.{List}
use Rattle.std.proofs.Math.Option.{none, some}
use Rattle.std.proofs.Math.Seq.{take-set-lt}
use Rattle.semantics.specs.Value.{minus, in_range, at_most}
use Rattle.semantics.proofs.ValueLaws.{minus_same}
use Rattle.semantics.specs.Program.{Label}
use Rattle.semantics.specs.Run.{next}
use Rattle.semantics.specs.Bench.{Frame, state, raised, step}
use Rattle.semantics.specs.WellFormed.{IsLabel}
use Rattle.semantics.specs.Extras.{raise_extra, extra}
use Rattle.semantics.proofs.SlotLaws.{given_some}
use Rattle.procedure_operations.specs.declared.operation.Operation.{Operation}
use Rattle.procedure_operations.specs.declared.operation.Operation.TheVariants.{Constant, Copy, Difference, Goto, Branch, RaiseValue}
use Rattle.procedure_operations.specs.Operation.{operation_at}
use Rattle.procedure_fields.specs.Number.{number_of}
use Rattle.procedure_fields.specs.NumberLaws.{raise_known}
use Rattle.procedure_file.specs.Check.{program_of}
use Rattle.procedure_layout.specs.Rest.{rest_at}
use Rattle.bench_frames.specs.declared.registers.Regs.{Regs}
use Rattle.bench_frames.specs.declared.registers.Step.{Step}
use Rattle.bench_frames.specs.declared.registers.Step.TheVariants.{Next}
use Rattle.procedure_file.specs.FileInvariant.{FileInvariant, OperationsAt}
use Rattle.bench_frames.specs.Machine.{function_at, vars_of, start_regs, frames_of, state_of, Standing}
use Rattle.bench_frames.specs.Steps.{StepResult}
use Rattle.bench_frames.specs.StateLaws.{Gives, before, stepped, extra_is, placed, there, on, moved}
use Rattle.bench_unwind.specs.Raises.{Raises}
use Rattle.bench_step.specs.Subtracts.{behind, Subtracts}
use Rattle.bench_unwind.specs.EnterLaws.{value_of_lem, value_is, no_extras, to_label_lem}

-- The same operation, by the labels that the code has.
pub goto_named : {o : Operation} {l m n : ℕ} → o ≡ Goto l n → m ≡ l → o ≡ Goto m n
goto_named e p = rw p e

pub branch_named : {o : Operation} {y z l m i j n : ℕ} → o ≡ Branch y z l m n → i ≡ l → j ≡ m → o ≡ Branch y z i j n
branch_named e p q = rw (p, q) e

module _ {s : List ℕ} (F : FileInvariant s) {limit : ℕ} {r : Regs} {vs words : List ℤ} (H : Standing s limit r vs words) where
  abbrev now_vars : List ℤ
  now_vars = take (vars_of s r.function) vs

  abbrev now_frames : List Frame
  now_frames = frames_of s words r.waiting

  -- A value is assigned to variable x, which is a in the code.
  assigned : {o : Operation} {x a n : ℕ} {u v : ℤ} {q : Regs} → operation_at s r.at ≡ o → a ≡ x → v ≡ u → q ≡ behind r n → x < vars_of s r.function → OperationsAt s r.function n → extra (program_of s) (before F H o) ≡ 0
      → step (program_of s) limit (before F H o) ≡ next (state r.function r.handler (rest_at s n) (set now_vars x u) now_frames) → Gives H (Next q) (set vs a v) words
  unfolding state_of
  assigned {x = x} {n = n} {u = u} e ea ev eq lx st z m =
      rw (ea, ev, eq)
      (moved F H (stepped F H e ∙ (m ∙ ap (λ (us : List ℤ). next (state r.function r.handler (rest_at s n) us now_frames)) (sym (take-set-lt (vars_of s r.function) vs x u lx))))
      st H.frames (length-set vs x u ∙ H.variables) refl refl (no_extras (extra_is F H e ∙ z)))

  abbrev Raising : ℕ → ℤ → Bool → Type 0
  Raising k n z = Raises s limit r vs words k n z

  abbrev value : ℕ → ℤ
  value y = get_or vs y (pos 0)

  -- 1 constant
  pub constant_done : {x a n : ℕ} {i v : ℤ} {q : Regs} → operation_at s r.at ≡ Constant x i n → a ≡ x → v ≡ i → q ≡ behind r n → Gives H (Next q) (set vs a v) words
  unfolding step
  constant_done e ea ev eq = assigned e ea ev eq (placed F H e).block.0 (on F H e) refl refl

  -- 2 copy
  pub copy_done : {x y a b n : ℕ} {v : ℤ} {q : Regs} → operation_at s r.at ≡ Copy x y n → a ≡ x → b ≡ y → v ≡ value b → q ≡ behind r n → Gives H (Next q) (set vs a v) words
  unfolding step
  copy_done e ea eb ev eq = assigned e ea (ev ∙ ap value eb) eq (placed F H e).block.0 (on F H e) refl (rw (value_is F H (placed F H e).block.1))

  -- 3 difference: its step and its extras, by whether it fits.
  judged : {x y z y' z' n : ℕ} {a b : ℤ} {c c' : Bool} → operation_at s r.at ≡ Difference x y z n → y' ≡ y → z' ≡ z → a ≡ value y' → b ≡ value z' → c ≡ in_range (a -ℤ b) → c ≡ c' → (
      step (program_of s) limit (before F H (Difference x y z n)) ≡ cond c' (next (state r.function r.handler (rest_at s n) (set now_vars x (a -ℤ b)) now_frames))
      (raised (program_of s) r.function r.handler (pos 0) now_vars now_frames)
      )
      × (extra (program_of s) (before F H (Difference x y z n)) ≡ cond c' 0 (suc (raise_extra (program_of s) r.function r.handler none now_frames)))
  unfolding step
  judged {y = y} {z = z} {a = a} {b = b} {c' = c'} e ey ez ea eb ec et =
      let w = (placed F H e).block in
      let p : a ≡ value y = ea ∙ ap value ey in
      let q : b ≡ value z = eb ∙ ap value ez in
      let k : in_range (value y -ℤ value z) ≡ c' = sym (ec ∙ ap₂ (λ (i j : ℤ). in_range (i -ℤ j)) p q) ∙ et in
      (rw (p, q, value_is F H w.1, value_is F H w.2, k), rw (value_of_lem F H w.1, value_of_lem F H w.2, k))

  pub difference_done : {x y z x' y' z' n : ℕ} {a b v : ℤ} {c : Bool} {q : Regs} → operation_at s r.at ≡ Difference x y z n → x' ≡ x → y' ≡ y → z' ≡ z → a ≡ value y' → b ≡ value z' → c ≡ in_range (a -ℤ b) → c ≡ true
      → v ≡ minus a b → q ≡ behind r n → Gives H (Next q) (set vs x' v) words
  difference_done {a = a} {b = b} e ex ey ez ea eb ec et ev eq =
      let D = judged e ey ez ea eb ec et in assigned e ex (ev ∙ minus_same a b (sym ec ∙ et)) eq (placed F H e).block.0 (on F H e) D.1 D.0

  pub difference_raises : {x y z y' z' n : ℕ} {a b : ℤ} {c : Bool} → operation_at s r.at ≡ Difference x y z n → y' ≡ y → z' ≡ z → a ≡ value y' → b ≡ value z' → c ≡ in_range (a -ℤ b) → c ≡ false
      → Raising (r.extras + 1) (pos 0) true
  difference_raises e ey ez ea eb ec et =
      let D = judged e ey ez ea eb ec et in
      let m = raise_extra (program_of s) r.function r.handler none now_frames in
      let p : r.extras + suc m ≡ r.extras + 1 + m = omega arith in
      record { named = none; zero_is = refl; outcome = stepped F H e ∙ D.0; counted = ap (λ (k : ℕ). r.extras + k) (extra_is F H e ∙ D.1) ∙ p }

  -- 5 goto
  pub goto_safe : {l n : ℕ} → operation_at s r.at ≡ Goto l n → (r.function < length (program_of s)) × IsLabel (length (function_at s r.function).blocks) l
  goto_safe e = (there F H, (placed F H e).block)

  pub goto_done : {l n : ℕ} {q : Regs} → operation_at s r.at ≡ Goto l n → q ≡ start_regs s r.function l r.waiting r.extras → Gives H (Next q) vs words
  unfolding step
  goto_done e eq = to_label_lem F H (placed F H e).block (stepped F H e) (no_extras (extra_is F H e)) eq

  -- 7 branch
  pub record BranchSafe (l m : ℕ) : Type 0 where
    pub function : r.function < length (program_of s)
    pub least : IsLabel (length (function_at s r.function).blocks) l
    pub other : IsLabel (length (function_at s r.function).blocks) m

  pub branch_safe : {y z l m n : ℕ} → operation_at s r.at ≡ Branch y z l m n → BranchSafe l m
  branch_safe e = let w = (placed F H e).block in record { function = there F H; least = w.2; other = w.3 }

  chosen : {n : ℕ} (c : Bool) {l m : Label} → IsLabel n l → IsLabel n m → IsLabel n (cond c l m)
  chosen true a b = a
  chosen false a b = b

  pub branch_done : {y z y' z' l m n : ℕ} {a b : ℤ} {c c' : Bool} {q : Regs} → operation_at s r.at ≡ Branch y z l m n → y' ≡ y → z' ≡ z → a ≡ value y' → b ≡ value z' → c ≡ at_most a b → c ≡ c'
      → q ≡ start_regs s r.function (cond c' l m) r.waiting (r.extras + 1) → Gives H (Next q) vs words
  unfolding step
  branch_done {y} {z} {c' = c'} e ey ez ea eb ec et eq =
      let w = (placed F H e).block in
      let k : at_most (value y) (value z) ≡ c' = sym (ec ∙ ap₂ at_most (ea ∙ ap value ey) (eb ∙ ap value ez)) ∙ et in
      to_label_lem F H (chosen c' w.2 w.3) (stepped F H e ∙ rw (value_is F H w.0, value_is F H w.1, k)) (ap (λ (j : ℕ). r.extras + j) (sym (extra_is F H e))) eq

  -- 8 raise
  pub raise_raises : number_of (operation_at s r.at) ≡ 8 → Raising r.extras (pos 0) true
  unfolding step
  raise_raises e =
      let o = raise_known (operation_at s r.at) e in
      record { named = none; zero_is = refl; outcome = stepped F H o.1; counted = ap (λ (k : ℕ). r.extras + k) (extra_is F H o.1) }

  -- 9 raise of a variable's value
  pub value_raises : {x a n : ℕ} {v : ℤ} → operation_at s r.at ≡ RaiseValue x n → a ≡ x → v ≡ value a → Raising r.extras v false
  unfolding step
  value_raises {x} {v = v} e ea ev =
      let q : v ≡ value x = ev ∙ ap value ea in
      record {
        named = some x;
        zero_is = refl;
        outcome = rw q (stepped F H e ∙ given_some (λ (z : ℤ). raised (program_of s) r.function r.handler z now_vars now_frames) (value_is F H (placed F H e).block));
        counted = ap (λ (k : ℕ). r.extras + k) (extra_is F H e);
      }

-- ── Operation 3 up to a raise ───────────────────────────────────────────────────────────────────

module _ {s : List ℕ} {limit : ℕ} {r : Regs} {vs words : List ℤ} where
  pub subtract_done : {n : ℕ} {b : Bool} {vs' : List ℤ} {q : Regs} → Subtracts s limit r vs words n b vs' → b ≡ true → q ≡ behind r n → StepResult s limit r vs words (Next q) vs' words
  subtract_done {n} {vs' = vs'} D e eq = rw eq (subst (λ (b : Bool). Subtracts s limit r vs words n b vs') e D)

  pub subtract_raises : (n : ℕ) {b : Bool} {vs' : List ℤ} → Subtracts s limit r vs words n b vs' → b ≡ false → Raises s limit r vs words (r.extras + 1) (pos 0) true × (vs' ≡ vs)
  subtract_raises n {vs' = vs'} D e = subst (λ (b : Bool). Subtracts s limit r vs words n b vs') e D

  -- A number that went through a word.
  pub raises_as : {k : ℕ} {n v : ℤ} {z : Bool} → v ≡ n → Raises s limit r vs words k n z → Raises s limit r vs words k v z
  raises_as {k} {z = z} e R = subst (λ (i : ℤ). Raises s limit r vs words k i z) (sym e) R

  -- `raise_step` behind it, with variables us, which are those before.
  pub raise_asked : {us : List ℤ} {k : ℕ} {n v : ℤ} {z : Bool} → us ≡ vs → v ≡ n → Standing s limit r vs words → Raises s limit r vs words k n z → Standing s limit r us words × Raises s limit r us words k v z
  raise_asked e q H R = rw (e, q) (H, R)

  pub raise_done : {us us' : List ℤ} {x : Step} → us ≡ vs → StepResult s limit r us words x us' words → StepResult s limit r vs words x us' words
  raise_done {us' = us'} {x = x} e D = subst (λ (ws : List ℤ). StepResult s limit r ws words x us' words) e D
