-- The value of a variable; to a label.
use Rattle.std.specs.Prelude.{ℕ, ◌+◌, ◌≤◌, ◌<◌, ◌≡◌, Bool, true, false, cond, List, eqb, ℤ, pos, length, get_or, set, take}
use Rattle.std.proofs.Common.{add-zero, arith, sym, ap, ◌∙◌, subst, get_or-take}
use Rattle.std.proofs.Math.Path.{refl}
use borrow.Author.Tests.{eq-eqb, ne_eqb}
use Rattle.std.proofs.Math.Option.{Option, none, some}
use Rattle.std.proofs.Math.ListN.{get_elem?}
use Rattle.std.proofs.Math.Seq.{take-set-lt}
use Rattle.semantics.specs.Program.{Variable, Block, Labelled}
use Rattle.semantics.specs.Run.{next}
use Rattle.semantics.specs.Bench.{Frame, state, enter, received, enter_by_raise, step}
use Rattle.semantics.specs.WellFormed.{IsLabel, MayName}
use Rattle.semantics.specs.Translation.{receiver_in, receiver_at}
use Rattle.semantics.specs.Extras.{one, value_of, extra}
use Rattle.semantics.proofs.ListLaws.{at_get_d}
use Rattle.semantics.proofs.SlotLaws.{given_some}
use Rattle.procedure_file.specs.Check.{program_of}
use Rattle.procedure_layout.specs.Rest.{rest_at}
use Rattle.procedure_file.specs.Places.{start_of, handler_of, receiver_of}
use Rattle.procedure_file.specs.FileInvariant.{FileInvariant}
use Rattle.bench_frames.specs.declared.registers.Regs.{Regs}
use Rattle.bench_frames.specs.declared.registers.Step.TheVariants.{Next}
use Rattle.bench_frames.specs.Machine.{function_at, vars_of, start_regs, frames_of, state_of, Standing}
use Rattle.bench_frames.specs.StateLaws.{Gives, place, there, moved}
use Rattle.procedure_names.specs.Writing.{receiver_byte}
use Rattle.bench_unwind.specs.Raises.{leaving, Receives}

-- No extras are added.
pub no_extras : {n k : ℕ} → k ≡ 0 → n ≡ n + k
no_extras {n} z = sym (ap (λ (k : ℕ). n + k) z ∙ add-zero n)

module _ {s : List ℕ} (F : FileInvariant s) where
  -- To a label of function f.
  pub enters : {f l : ℕ} → f < length (program_of s) → IsLabel (length (function_at s f).blocks) l → (vs : List ℤ) (fs : List Frame)
      → enter (program_of s) f l vs fs ≡ next (state f (handler_of (function_at s f) l) (rest_at s (start_of (program_of s) f l)) vs fs)
  enters {f} {l} h k vs fs =
      given_some (λ (B : Labelled). next (state f B.handler B.block vs fs)) (F.labelled f l k)
      ∙ ap (λ (b : Block). next (state f (handler_of (function_at s f) l) b vs fs)) (sym (F.block f l h k.1))

  -- The receiver of the block with a label.
  pub receiver_at_lem : (f l : ℕ) → IsLabel (length (function_at s f).blocks) l → receiver_at (function_at s f) l ≡ receiver_of (function_at s f) l
  receiver_at_lem f l k = ap receiver_in (F.labelled f l k)

  -- To a label of function f by a raise of n: its receiver is set.
  pub enters_by_raise : {f l : ℕ} → f < length (program_of s) → IsLabel (length (function_at s f).blocks) l → (n : ℤ) (vs : List ℤ) (fs : List Frame)
      → enter_by_raise (program_of s) f l n vs fs ≡ next (state f (handler_of (function_at s f) l) (rest_at s (start_of (program_of s) f l)) (received (receiver_of (function_at s f) l) n vs) fs)
  enters_by_raise {f} {l} h k n vs fs =
      given_some (λ (B : Labelled). next (state f B.handler B.block (received B.receiver n vs) fs)) (F.labelled f l k)
      ∙ ap (λ (b : Block). next (state f (handler_of (function_at s f) l) b (received (receiver_of (function_at s f) l) n vs) fs)) (sym (F.block f l h k.1))

  -- The receiver is one of the function's variables.
  pub receiver_set : {f l : ℕ} → f < length (program_of s) → IsLabel (length (function_at s f).blocks) l → (n : ℤ) (us : List ℤ)
      → take (vars_of s f) (received (receiver_of (function_at s f) l) n us) ≡ received (receiver_of (function_at s f) l) n (take (vars_of s f) us)
  receiver_set {f} {l} h k n us = by (receiver_of (function_at s f) l) (F.receiver f l h k.1)
    where
      by : (q : Option Variable) → MayName (vars_of s f) q → take (vars_of s f) (received q n us) ≡ received q n (take (vars_of s f) us)
      by none w = refl
      by (some x) w = take-set-lt (vars_of s f) us x n w

  module _ {limit : ℕ} {r : Regs} {vs words : List ℤ} (H : Standing s limit r vs words) where
    abbrev now_vars : List ℤ
    now_vars = take (vars_of s r.function) vs

    abbrev now_frames : List Frame
    now_frames = frames_of s words r.waiting

    -- The value of a variable.
    pub value_of_lem : {y : ℕ} → y < vars_of s r.function → value_of now_vars y ≡ get_or vs y (pos 0)
    value_of_lem {y} h = get_or-take (vars_of s r.function) vs y (pos 0) h

    pub value_is : {y : ℕ} → y < vars_of s r.function → get_elem? now_vars y ≡ some (get_or vs y (pos 0))
    value_is {y} h =
        at_get_d now_vars y (pos 0) (subst (λ (n : ℕ). y < n) (sym (place F H).variables) h)
        ∙ ap (λ (z : ℤ). some z) (value_of_lem h)

    -- To a label of the running function, with k extras.
    pub to_label_lem : {l k : ℕ} {q : Regs} → IsLabel (length (function_at s r.function).blocks) l → step (program_of s) limit (state_of s r vs words) ≡ enter (program_of s) r.function l now_vars now_frames
        → k ≡ r.extras + extra (program_of s) (state_of s r vs words) → q ≡ start_regs s r.function l r.waiting k → Gives H (Next q) vs words
    unfolding state_of
    to_label_lem {l = l} il m x eq =
        rw eq (moved F H (m ∙ enters (there F H) il now_vars now_frames) (F.start r.function l (there F H) il.1) H.frames H.variables refl refl x)

-- What the function that sets a receiver answers, by the byte of the receiver.
module _ {v x : ℕ} (q : Option Variable) (w : MayName v q) (counter_bound : v ≤ 32) (e : x ≡ receiver_byte q) (n : ℤ) (vs : List ℤ) where
  pub none_received : x ≡ 255 → Receives q n vs vs 0
  none_received z = by q w e
    where
      by : (p : Option Variable) → MayName v p → x ≡ receiver_byte p → Receives p n vs vs 0
      by none h i = record { set = refl; counted = refl }
      by (some y) h i = absurd (omega (arith, h, i))

  pub receiver_index : (x ≡ 255 → ⊥) → x < 32
  receiver_index z = by q w e
    where
      by : (p : Option Variable) → MayName v p → x ≡ receiver_byte p → x < 32
      by none h i = absurd (z i)
      by (some y) h i = omega (arith, h, i)

  pub one_received : (k : ℤ) → k ≡ n → (x ≡ 255 → ⊥) → Receives q n vs (set vs x k) 1
  one_received k f z = by q w e
    where
      by : (p : Option Variable) → MayName v p → x ≡ receiver_byte p → Receives p n vs (set vs x k) 1
      by none h i = absurd (z i)
      by (some y) h i = record { set = rw (i, f); counted = refl }

-- At most one is set, and at most one is bound where a raise leaves its function.
pub received_few : {q : Option Variable} {n : ℤ} {vs us : List ℤ} {k : ℕ} → Receives q n vs us k → k ≤ 1
received_few {q} {k = k} E = by q E.counted
  where
    by : (p : Option Variable) → k ≡ one p → k ≤ 1
    by none e = omega arith
    by (some x) e = omega arith

pub leaving_few : (version : ℕ) (zero : Bool) → leaving version zero ≤ 1
unfolding leaving
leaving_few version true = by (eqb version 2)
  where
    by : (c : Bool) → cond c 1 0 ≤ 1
    by true = omega arith
    by false = omega arith
leaving_few version false = omega arith

-- A number that went through a word.
pub received_as : {q : Option Variable} {n z : ℤ} {vs us : List ℤ} {k : ℕ} → z ≡ n → Receives q z vs us k → Receives q n vs us k
received_as {q} {vs = vs} {us = us} {k = k} e E = subst (λ (i : ℤ). Receives q i vs us k) e E

-- What is bound where a raise leaves its function, as the code tests it.
module _ {version v : ℕ} (e : v ≡ version) where
  pub zero_leaves : (zero : Bool) → zero ≡ true → v ≡ 2 → 1 ≡ leaving version zero
  unfolding leaving
  zero_leaves zero t h = rw (t, eq-eqb version 2 (sym e ∙ h))

  pub zero_unbound : (zero : Bool) → zero ≡ true → (v ≡ 2 → ⊥) → 0 ≡ leaving version zero
  unfolding leaving
  zero_unbound zero t h = rw (t, ne_eqb version 2 (λ i. h (e ∙ i)))
