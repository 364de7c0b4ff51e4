-- A step of the bench, as the laws of a machine's loop have it; and the bound on its extras.
use Rattle.std.specs.Prelude.{ℕ, ◌+◌, ◌-◌, ◌*◌, ◌≤◌, ◌<◌, ◌≡◌, refl, Bool, true, false, List, ltb, ℤ, pos, length, replicate}
use Rattle.std.proofs.Common.{arith, add_assoc, add-zero, sym, ap, ap₂, subst, ◌∙◌, ltb-true, ltb-false}
use Rattle.std.proofs.Math.ListN.{get_or-eq_default}
use Rattle.semantics.specs.Program.{Function, no_function}
use Rattle.semantics.specs.Bench.{State, step}
use Rattle.semantics.specs.Extras.{extra}
use Rattle.semantics.proofs.StopLaws.{extra_bound}
use Rattle.runs.specs.declared.End.{End}
use Rattle.runs.specs.declared.Stopped.TheVariants as Stopped
use Rattle.runs.specs.Stopped.{end_as}
use Rattle.runs.specs.Machine.{held, StepAnswer, moved_to, ended_with, deep_in, Counts, Steps, Turn}
use Rattle.runs.specs.MachineLaws.{turn_start, on_next, on_ended, on_deep, on_spent}
use Rattle.procedure_layout.specs.Layout.{max_variables}
use Rattle.procedure_file.specs.Check.{program_of}
use Rattle.procedure_file.specs.FileInvariant.{FileInvariant}
use Rattle.bench_frames.specs.declared.registers.Regs.{Regs}
use Rattle.bench_frames.specs.declared.registers.Step.{Step}
use Rattle.bench_frames.specs.declared.registers.Step.TheVariants.{Next, Ended, Deep}
use Rattle.bench_frames.specs.Machine.{function_at, state_of, Standing}
use Rattle.bench_frames.specs.Steps.{StepResult}
use Rattle.bench.specs.RunResult.{StandsFor, machine, RunResult}
use Rattle.bench.specs.Published.{zero_regs}

-- No function has more than 24 locals; one that is not there has none.
locals_bound_lem : {s : List ℕ} → FileInvariant s → (g : ℕ) → (function_at s g).locals ≤ 24
locals_bound_lem {s} F g = by (ltb g (length (program_of s))) refl
  where
    by : (c : Bool) → ltb g (length (program_of s)) ≡ c → (function_at s g).locals ≤ 24
    by true e = (F.counts g (ltb-true g (length (program_of s)) e)).locals
    by false e = subst (λ (G : Function). G.locals ≤ 24) (sym (get_or-eq_default (program_of s) no_function (ltb-false g (length (program_of s)) e))) (omega arith)

-- A step has at most 25 extras.
extra_small : {s : List ℕ} → FileInvariant s → (S : State) → extra (program_of s) S ≤ 25
extra_small {s} F S = extra_bound (program_of s) 24 (omega arith) (locals_bound_lem F) S

-- What a step's answer says; at an end registers, but the extras, and variables are made 0.
abbrev pub answer_of : Regs → Step → List ℤ → List ℤ → StepAnswer Regs
answer_of r (Next q) vs words = moved_to (held q vs words)
answer_of r (Ended e k) vs words = ended_with (end_as e) (held (zero_regs k) (replicate max_variables (pos 0)) words)
answer_of r Deep vs words = deep_in (held r vs words)

module _ {s : List ℕ} {limit : ℕ} {r : Regs} {vs words : List ℤ} where
  from : {S : State} → StandsFor s limit (held r vs words) S → step (program_of s) limit S ≡ step (program_of s) limit (state_of s r vs words)
  from h = ap (step (program_of s) limit) (sym h.0)

  added_so : {S : State} → StandsFor s limit (held r vs words) S → r.extras + extra (program_of s) (state_of s r vs words) ≡ r.extras + extra (program_of s) S
  added_so h = ap (λ (T : State). r.extras + extra (program_of s) T) h.0

  steps : (x : Step) {vs' words' : List ℤ} → StepResult s limit r vs words x vs' words' → Steps (machine s limit) (held r vs words) (answer_of r x vs' words')
  steps (Next q) {vs'} {words'} D =
      record {
        answers = λ S h. (state_of s q vs' words', from h ∙ sym D.outcome, (refl, D.held.0), D.held.1 ∙ added_so h);
        keeps = record { past = D.kept; same_length = D.same_length; beside = λ z. z };
      }
  steps (Ended e k) D = record { answers = λ S h. (from h ∙ sym D.outcome, D.held ∙ added_so h); keeps = record { past = D.kept; same_length = D.same_length; beside = λ z. z } }
  steps Deep D =
      record {
        answers = λ S h. (from h ∙ sym D.outcome, ap₂ (λ (us ws : List ℤ). held r us ws) D.held.0 D.held.1);
        keeps = record { past = D.kept; same_length = D.same_length; beside = λ z. z };
      }

  stepped : {x y : Step} {vs' words' : List ℤ} → StepResult s limit r vs words x vs' words' → x ≡ y → Steps (machine s limit) (held r vs words) (answer_of r y vs' words')
  stepped {x} {vs' = vs'} {words' = words'} D e = subst (λ (z : Step). Steps (machine s limit) (held r vs words) (answer_of r z vs' words')) e (steps x D)

counts : (s : List ℕ) (limit : ℕ) → Counts (machine s limit)
counts s limit = record { associative = add_assoc; settled = λ m S h. add-zero m.regs.extras }

-- The loop with `left` steps of its budget b left, counted down.
pub record Loop (s : List ℕ) (limit b : ℕ) (r₀ : Regs) (vs₀ words₀ : List ℤ) (left : ℕ) (r : Regs) (vs words : List ℤ) : Type 0 where
  pub left_bound : left ≤ b
  pub turn : Turn (machine s limit) b (held r₀ vs₀ words₀) (b - left) (held r vs words)
  pub small : r.extras ≤ r₀.extras + 25 * (b - left)

pub loop_start : {s : List ℕ} {limit b : ℕ} {r : Regs} {vs words : List ℤ} → Standing s limit r vs words → Loop s limit b r vs words b r vs words
loop_start {s} {limit} {b} {r} {vs} {words} H =
    let q : 0 ≡ b - b = omega arith in
    record {
      left_bound = omega arith;
      turn = subst (λ (n : ℕ). Turn (machine s limit) b (held r vs words) n (held r vs words)) q (turn_start (machine s limit) b (held r vs words) (state_of s r vs words, (refl, H)));
      small = omega arith;
    }

module _ {s : List ℕ} {limit b : ℕ} {r₀ : Regs} {vs₀ words₀ : List ℤ} {left : ℕ} {r : Regs} {vs words : List ℤ} (L : Loop s limit b r₀ vs₀ words₀ left r vs words) where
  pub loop_held : Standing s limit r vs words
  loop_held = L.turn.some.1.1

  pub extras_small : b < 4294967296 → r₀.extras < 4294967296 → r.extras < 9223372036854775808
  extras_small h k = let m : r.extras ≤ r₀.extras + 25 * (b - left) = L.small in omega arith

  module _ (l : 0 < left) where
    before : b - left < b
    before = let f : left ≤ b = L.left_bound in omega arith

    module _ {x : Step} {vs' words' : List ℤ} (D : StepResult s limit r vs words x vs' words') where
      pub loop_next : FileInvariant s → {q : Regs} → x ≡ Next q → Loop s limit b r₀ vs₀ words₀ (left - 1) q vs' words'
      loop_next F {q} e =
          let f : left ≤ b = L.left_bound in
          let m : r.extras ≤ r₀.extras + 25 * (b - left) = L.small in
          let k : b - left + 1 ≡ b - (left - 1) = omega arith in
          let w : extra (program_of s) (state_of s r vs words) ≤ 25 = extra_small F (state_of s r vs words) in
          let y : q.extras ≡ r.extras + extra (program_of s) (state_of s r vs words) = (subst (λ (z : Step). StepResult s limit r vs words z vs' words') e D).held.1 in
          record {
            left_bound = omega arith;
            turn = subst (λ (n : ℕ). Turn (machine s limit) b (held r₀ vs₀ words₀) n (held q vs' words')) k (on_next (machine s limit) (counts s limit) L.turn before (stepped D e));
            small = omega arith;
          }

      pub loop_ended : {e : End} {k : ℕ} {q : Regs} → x ≡ Ended e k → q ≡ zero_regs k
          → RunResult s limit b r₀ vs₀ words₀ (record { stopped = Stopped.Ended e; steps = b - left + 1; regs = q }) (replicate 32 (pos 0)) words'
      loop_ended {e} {k} h z =
          subst (λ (q : Regs). RunResult s limit b r₀ vs₀ words₀ (record { stopped = Stopped.Ended e; steps = b - left + 1; regs = q }) (replicate 32 (pos 0)) words') (sym z)
          (record { ran = on_ended (machine s limit) (counts s limit) L.turn before (refl, refl) (stepped D h) })

      pub loop_deep : x ≡ Deep → RunResult s limit b r₀ vs₀ words₀ (record { stopped = Stopped.Deep; steps = b - left; regs = r }) vs' words'
      loop_deep h = record { ran = on_deep (machine s limit) (counts s limit) L.turn before (stepped D h) }

  pub loop_spent : left ≤ 0 → RunResult s limit b r₀ vs₀ words₀ (record { stopped = Stopped.Spent; steps = b; regs = r }) vs words
  loop_spent l =
      let q : b - left ≡ b = omega arith in
      record { ran = on_spent (machine s limit) (counts s limit) (subst (λ (n : ℕ). Turn (machine s limit) b (held r₀ vs₀ words₀) n (held r vs words)) q L.turn) (omega arith) }
