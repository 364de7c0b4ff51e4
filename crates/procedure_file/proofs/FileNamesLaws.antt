-- Laws of the names of a whole file, as the functions that judge them meet them.
use Rattle.parsing.specs.declared.reason.Reason.TheVariants.{MissingLabel}
use Rattle.std.specs.Prelude.{ℕ, suc, ◌+◌, ◌-◌, ◌≤◌, ◌<◌, ◌≡◌, length, get_or, drop, Err, Ok, Result}
use Rattle.std.proofs.Common.{sym, ◌∙◌, le-leb, drop-cons}
use Rattle.std.proofs.Math.Path.{ap}
use mathlib.Core.List.{List, [], ◌∷◌}
use Rattle.std.proofs.Math.Option.{Option}
use native.Mathlib.Omega.{arith}
use Rattle.std.proofs.lemmas.Bool.{lt-leb}
use Rattle.parsing.specs.declared.Refusal.{Refusal}
use Rattle.parsing.specs.Parser.{Verdict, refused, or_else, verdict_of}
use Rattle.parsing.specs.Fields.{version_of}
use Rattle.semantics.specs.Program.{Variable, Block, Function, Program, variables, function_of, no_function}
use Rattle.procedure_layout.specs.Layout.{as_receiver, bytes_before}
use Rattle.procedure_names.specs.Writing.{block_bytes}
use Rattle.procedure_names.specs.Names.{handler, receiver, block_names, labelled_names, function_names, functions_names, arities, names_of, first_wrong}
use Rattle.procedure_file.specs.Check.{program_of}
use Rattle.procedure_layout.specs.Rest.{rest_at}
use Rattle.procedure_file.specs.Places.{function_place, label_place, start_of, no_labelled, block_of, handler_of, receiver_of}
use Rattle.procedure_file.specs.Loaded.{Laid}
use Rattle.procedure_file.specs.Asked.{labelled_verdict, Naming, function_verdict}
use Rattle.procedure_file.proofs.AcceptedLaws.{laid_reads}
use Rattle.procedure_names.specs.NamesLaws.{first_append}
use Rattle.procedure_file.specs.PlacesLaws.{rest_is, version_is_lem, start_at, label_next, function_next}

-- A verdict on a part that was refused, or accepted, by the whole's.
by_refused : (r : Result (Unit {0}) Refusal) (q : Refusal) (u v w : Verdict) → verdict_of r ≡ u → r ≡ Err q → w ≡ or_else u v
    → refused q.reason q.place ≡ w
by_refused r q u v w t x e = sym (e ∙ ap (λ (y : Verdict). or_else y v) (sym t ∙ ap verdict_of x))

by_accepted : (r : Result (Unit {0}) Refusal) (u v w : Verdict) → verdict_of r ≡ u → r ≡ (Ok tt) → w ≡ or_else u v → v ≡ w
by_accepted r u v w t x e = sym (e ∙ ap (λ (y : Verdict). or_else y v) (sym t ∙ ap verdict_of x))

-- A labelled block whose handler is no label, and one whose handler is.
module _ (ps s : List ℕ) (v labels h b at H S : ℕ) (handler_is : h ≡ H) (before_is : b ≡ bytes_before (version_of s)) (start_is : at ≡ S) (R : Option Variable) where
  pub handler_wrong : labels < h → refused MissingLabel (at - b) ≡ labelled_verdict ps s v labels H R S
  handler_wrong k = rw (← handler_is, ← start_is, before_is, lt-leb h labels k)

  pub handler_right : h ≤ labels → (x : ℕ) → as_receiver x ≡ R → (p q u : Verdict) → u ≡ or_else p q → p ≡ first_wrong (receiver v (at - b + 1) (as_receiver x) ∷ [])
      → q ≡ first_wrong (block_names ps v labels at (rest_at s at)) → u ≡ labelled_verdict ps s v labels H R S
  handler_right k x e p q u o m n =
      let c : u ≡ first_wrong (receiver v (at - b + 1) R ∷ block_names ps v labels at (rest_at s at)) =
      o ∙ ap (λ (y : Verdict). or_else y q) (m ∙ ap (λ (r : Option Variable). first_wrong (receiver v (at - b + 1) r ∷ [])) e)
      ∙ ap (or_else (first_wrong (receiver v (at - b + 1) R ∷ []))) n ∙ sym (first_append (receiver v (at - b + 1) R ∷ []) (block_names ps v labels at (rest_at s at))) in
      rw (← handler_is, ← start_is, ← before_is, le-leb h labels k) c

-- The verdict on a function's labelled blocks from l + 1 on.
abbrev pub labels_verdict : List ℕ → List ℕ → ℕ → ℕ → ℕ → ℕ → Verdict
labels_verdict ps s f labels v l =
    first_wrong (labelled_names (function_of (program_of s) f).version ps v labels (label_place (program_of s) f l) (drop l (function_of (program_of s) f).blocks))

module _ (ps s : List ℕ) (L : Laid s) (f v labels : ℕ) (w : Naming s f v labels) where
  abbrev P : Program
  P = program_of s

  abbrev F : Function
  F = function_of P f

  abbrev left : ℕ → Verdict
  left l = labels_verdict ps s f labels v l

  rest_at_lem : (l : ℕ) → l ≤ labels → rest_at s (start_of P f l) ≡ block_of F l
  rest_at_lem l h = rest_is s (start_at s L.bytes P (laid_reads L) f w.there l (omega (arith, w.labels_are)))

  first_label : function_place P f + 3 + length (block_bytes F.entry) ≡ label_place P f 0
  unfolding label_place
  first_label = omega arith

  -- The entry block.
  module _ (r : Result (Unit {0}) Refusal) (at : ℕ) (start : at ≡ start_of P f 0) (bare_stop : verdict_of r ≡ first_wrong (block_names ps v labels at (rest_at s at))) where
    entry_is : verdict_of r ≡ first_wrong (block_names ps v labels (start_of P f 0) F.entry)
    entry_is =
        bare_stop ∙ ap (λ (k : ℕ). first_wrong (block_names ps v labels k (rest_at s k))) start
        ∙ ap (λ (b : Block). first_wrong (block_names ps v labels (start_of P f 0) b)) (rest_at_lem 0 (omega arith))

    parts : function_verdict ps s f ≡ or_else (first_wrong (block_names ps v labels (start_of P f 0) F.entry)) (left 0)
    parts =
        first_append (block_names ps (variables F) (length F.blocks) (function_place P f + 3) F.entry) (labelled_names F.version ps (variables F) (length F.blocks) (function_place P f + 3 + length (block_bytes F.entry)) F.blocks)
        ∙ rw (← w.labels_are, ← w.variables_are, first_label)

    pub entry_wrong : (q : Refusal) → r ≡ Err q → refused q.reason q.place ≡ function_verdict ps s f
    entry_wrong q x = by_refused r q _ (left 0) (function_verdict ps s f) entry_is x parts

    pub entry_right : r ≡ (Ok tt) → left 0 ≡ function_verdict ps s f
    entry_right x = by_accepted r _ (left 0) (function_verdict ps s f) entry_is x parts

  -- One labelled block.
  module _ (l : ℕ) (less : l < labels) (r : Result (Unit {0}) Refusal)
      (bare_stop : verdict_of r ≡ labelled_verdict ps s v labels (handler_of F (l + 1)) (receiver_of F (l + 1)) (start_of P f (l + 1))) where
    split : left l ≡ or_else (labelled_verdict ps s v labels (handler_of F (l + 1)) (receiver_of F (l + 1)) (start_of P f (l + 1))) (left (l + 1))
    split =
        let B = get_or F.blocks l no_labelled in
        let n = label_next s L.bytes P (laid_reads L) f w.there l (omega (arith, w.labels_are)) in
        let x = ap bytes_before (version_is_lem s L.bytes P (laid_reads L) f w.there) in
        let m : label_place P f l + bytes_before F.version - bytes_before (version_of s) ≡ label_place P f l = omega (arith, x) in
        let i : l + 1 ≡ suc l = omega arith in
        rw (i, drop-cons F.blocks l no_labelled (omega (arith, w.labels_are)), rest_at_lem (suc l) less, m, n)
        (first_append (handler labels (label_place P f l) B.handler ∷ receiver v (label_place P f l + 1) B.receiver ∷ block_names ps v labels (label_place P f l + bytes_before F.version) B.block)
        (labelled_names F.version ps v labels (label_place P f (suc l)) (drop (suc l) F.blocks)))

    pub label_wrong : (q : Refusal) → r ≡ Err q → refused q.reason q.place ≡ left l
    label_wrong q x = by_refused r q _ (left (l + 1)) (left l) bare_stop x split

    pub label_right : r ≡ (Ok tt) → left (l + 1) ≡ left l
    label_right x = by_accepted r _ (left (l + 1)) (left l) bare_stop x split

-- The verdict on the functions from f on.
abbrev pub functions_verdict : List ℕ → List ℕ → ℕ → Verdict
functions_verdict ps s f = first_wrong (functions_names ps (function_place (program_of s) f) (drop f (program_of s)))

module _ (s params : List ℕ) (L : Laid s) (params_are : params ≡ arities (program_of s)) where
  pub all_names : functions_verdict params s 0 ≡ first_wrong (names_of (program_of s))
  unfolding names_of function_place
  all_names = ap (λ (ps : List ℕ). first_wrong (functions_names ps 6 (program_of s))) params_are

  module _ (f : ℕ) (there : f < length (program_of s)) (r : Result (Unit {0}) Refusal) (bare_stop : verdict_of r ≡ function_verdict params s f) where
    split_functions : functions_verdict params s f ≡ or_else (function_verdict params s f) (functions_verdict params s (f + 1))
    split_functions =
        let P = program_of s in
        let n = function_next s L.bytes P (laid_reads L) f there in
        let i : f + 1 ≡ suc f = omega arith in
        rw (drop-cons P f no_function there, i, n)
        (first_append (function_names params (function_place P f) (function_of P f)) (functions_names params (function_place P (suc f)) (drop (suc f) P)))

    pub function_wrong : (q : Refusal) → r ≡ Err q → refused q.reason q.place ≡ functions_verdict params s f
    function_wrong q x = by_refused r q _ (functions_verdict params s (f + 1)) (functions_verdict params s f) bare_stop x split_functions

    pub function_right : r ≡ (Ok tt) → functions_verdict params s (f + 1) ≡ functions_verdict params s f
    function_right x = by_accepted r _ (functions_verdict params s (f + 1)) (functions_verdict params s f) bare_stop x split_functions
