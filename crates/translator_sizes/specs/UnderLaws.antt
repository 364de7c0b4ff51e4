-- What a block is translated under, as it is read from the file.
use Prim.Native.Nat.{ℕ, zero, suc, ◌+◌, ◌≤◌, ◌<◌}
use Rattle.std.proofs.Common.{arith, sym, ap, ◌∙◌, eq-eqb, ne_eqb}
use Rattle.std.specs.Prelude.{◌≡◌, refl, Bool, true, false, List, eqb, length}
use Rattle.std.proofs.Math.Bool.{cond}
use Rattle.std.proofs.Math.Option.{Option, none, some}
use Rattle.parsing.specs.Fields.{version_of}
use Rattle.semantics.specs.Program.{Variable, Function, no_labelled, no_function, variables, function_of}
use Rattle.semantics.specs.WellFormed.{MayName, WellFormedLabelled, WellFormedFunction}
use Rattle.semantics.proofs.ListLaws.{all_get_d}
use Rattle.semantics.specs.Translation.{slot_of, spare_slot, receiver_in, receiver_at, receiver_slot, parameter_slot}
use Rattle.procedure_names.specs.Writing.{receiver_byte}
use Rattle.procedure_file.specs.Check.{program_of}
use Rattle.procedure_file.specs.Places.{handler_of, receiver_of}
use Rattle.procedure_file.specs.FileInvariant.{FileInvariant}
use Rattle.translator_sizes.specs.Parts.{slot_byte, bound_slot, under_of}

-- The byte of a receiver, 255 for none.
none_slot : (v : ℕ) (R : Option Variable) → v ≤ 32 → MayName v R → receiver_byte R ≡ 255 → 0 ≡ slot_byte (receiver_slot R)
none_slot v none k m e = refl
none_slot v (some x) k m e = absurd (omega arith)

some_slot : (v : ℕ) (R : Option Variable) → v ≤ 32 → MayName v R → (receiver_byte R ≡ 255 → ⊥) → (receiver_byte R < 32) × (receiver_byte R + 2 ≡ slot_byte (receiver_slot R))
some_slot v none k m e = absurd (e refl)
some_slot v (some x) k m e = (omega arith, omega arith)

module _ {s : List ℕ} (K : FileInvariant s) (f : ℕ) (there : f < length (program_of s)) where
  abbrev F : Function
  F = function_of (program_of s) f

  pub few : variables F ≤ 32
  few =
      let c = K.counts f there in
      let p : F.params ≤ 8 = c.params in
      let l : F.locals ≤ 24 = c.locals in
      omega arith

  -- The handler of a block is a label or 0.
  pub handler_named : (l : ℕ) → l ≤ length F.blocks → handler_of F l ≤ length F.blocks
  handler_named zero k = omega arith
  handler_named (suc l) k =
      (all_get_d (WellFormedLabelled (program_of s) (variables F) (length F.blocks)) F.blocks l no_labelled
      (all_get_d (WellFormedFunction (program_of s)) (program_of s) f no_function K.well_formed there).blocks (omega arith)).handler

  module _ (h : ℕ) (label : h ≤ length F.blocks) where
    pub no_handler_slot : h ≡ 0 → 0 ≡ slot_byte (receiver_slot (receiver_at F h))
    no_handler_slot e = rw e

    module _ (some_label : h ≡ 0 → ⊥) {i x : ℕ} (ei : i ≡ h) (ex : x ≡ receiver_byte (receiver_of F i)) where
      byte_is : x ≡ receiver_byte (receiver_of F h)
      byte_is = ex ∙ ap (λ (l : ℕ). receiver_byte (receiver_of F l)) ei

      is_receiver : receiver_at F h ≡ receiver_of F h
      is_receiver = ap receiver_in (K.labelled f h (omega arith, label))

      pub no_receiver_slot : x ≡ 255 → 0 ≡ slot_byte (receiver_slot (receiver_at F h))
      no_receiver_slot e = rw is_receiver (none_slot (variables F) (receiver_of F h) few (K.receiver f h there label) (sym byte_is ∙ e))

      pub receiver_slot_lem : (x ≡ 255 → ⊥) → (x < 32) × (x + 2 ≡ slot_byte (receiver_slot (receiver_at F h)))
      receiver_slot_lem e =
          let r = some_slot (variables F) (receiver_of F h) few (K.receiver f h there label) (λ q. e (byte_is ∙ q)) in
          rw (is_receiver, byte_is) r

  -- The slots of a raise under handler h, from V+4, if the version has it, and the slot of the receiver.
  spare_is : {v p : ℕ} → v ≡ variables F → p ≡ cond (eqb (version_of s) 2) (v + 4) 0 → p ≡ slot_byte (spare_slot F)
  spare_is {v} {p} ev ep = ep ∙ (ap (λ (w : ℕ). cond (eqb w 2) (v + 4) 0) (sym (K.version f there)) ∙ by (eqb F.version 2))
    where
      by : (t : Bool) → cond t (v + 4) 0 ≡ slot_byte (cond t (some (slot_of (suc (suc (variables F))))) none)
      by true = omega arith
      by false = refl

  pub under_as : (h : ℕ) {v p r b q : ℕ} → v ≡ variables F → p ≡ cond (eqb (version_of s) 2) (v + 4) 0 → r ≡ slot_byte (receiver_slot (receiver_at F h))
      → b ≡ cond (eqb h 0) p r → q ≡ cond (eqb r 0) p r → record { variables = v; handler = h; bound = b; number_slot = q } ≡ under_of F h
  unfolding under_of
  under_as h {v} {p} {r} {b} {q} ev ep er eb eq =
      let e : p ≡ slot_byte (spare_slot F) = spare_is ev ep in
      rw (ev, eb ∙ bound h er e, eq ∙ number (receiver_at F h) er e)
    where
      bound : (k : ℕ) → r ≡ slot_byte (receiver_slot (receiver_at F k)) → p ≡ slot_byte (spare_slot F) → cond (eqb k 0) p r ≡ slot_byte (bound_slot F k)
      bound zero c e = e
      bound (suc k) c e = rw (ne_eqb (suc k) 0 (λ z. omega arith)) c

      number : (R : Option Variable) → r ≡ slot_byte (receiver_slot R) → p ≡ slot_byte (spare_slot F) → cond (eqb r 0) p r ≡ slot_byte (parameter_slot F R)
      number none c e = rw (eq-eqb r 0 c) e
      number (some x) c e = rw (ne_eqb r 0 (λ z. omega arith)) c
