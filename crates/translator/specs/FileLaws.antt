-- The loops over blocks and functions, and the whole file.
use Prim.Native.Nat.{ℕ, zero, suc, ◌+◌, ◌*◌, ◌≤◌, ◌<◌}
use Rattle.std.proofs.Common.{arith, add-one, ◌∙◌, length-append, length-set, drop_of_length-le, drop-cons, get_or-set_same, get_or-set_other}
use Rattle.std.proofs.Math.Decide.{dec_lt}
use Rattle.std.specs.Prelude.{◌≡◌, get_or, set, drop}
use Rattle.std.proofs.Math.Path.{refl, sym, ap}
use mathlib.Core.List.{List, [], ◌∷◌, ◌++◌}
use Rattle.std.proofs.Math.ListN.{length}
use Rattle.parsing.specs.Parser.{joined}
use Rattle.parsing.specs.ParserLaws.{joined_append}
use Rattle.parsing.specs.Bytes.{pair_bytes}
use Rattle.parsing.specs.Fields.{version_of}
use Rattle.semantics.specs.Program.{Function, Program, function_of, no_function}
use Rattle.semantics.specs.Translation.{targets, number, translate_function, translate_from, translate}
use Rattle.semantics.specs.Controller.{code_version}
use Rattle.semantics.proofs.TranslationLaws.{length_translate_function}
use Rattle.procedure_file.specs.Check.{program_of}
use Rattle.procedure_file.specs.Loaded.{Laid}
use Rattle.procedure_file.proofs.AcceptedLaws.{laid_reads}
use Rattle.procedure_file.proofs.TableLaws.{blocks_bound_lem}
use Rattle.procedure_file.specs.FileInvariant.{FileInvariant}
use Rattle.target_file.specs.Writing.{target_bytes, writing}
use Rattle.translator_sizes.specs.declared.Fields.{Fields}
use Rattle.translator.specs.Translated.{translation_of}
use Rattle.translator_sizes.specs.Parts.{part_bytes, fields_of, label_bytes, function_bytes, functions_bytes}
use Rattle.byte_writers.specs.Writes.{Room, Wrote}
use Rattle.byte_writers.specs.WriteLaws.{room_less, room_as, room_behind, room_behind_two, wrote_after}
use Rattle.translator_bytes.proofs.JumpLaws.{pair_as}
use Rattle.translator.specs.Asked.{Placed, Numbered}
use Rattle.translator_sizes.specs.PartLaws.{label_here, label_is}

-- The numbers of functions.
number_next : (P : Program) (f : ℕ) → f < length P → number P (suc f) ≡ number P f + targets (function_of P f)
number_next [] f h = absurd (omega arith)
number_next (F ∷ P) zero h = omega arith
number_next (F ∷ P) (suc f) h = let a : number P (suc f) ≡ number P f + targets (function_of P f) = number_next P f (omega arith) in omega arith

length_from : (ns : ℕ → ℕ) (b : ℕ) (Fs : List Function) → length (translate_from ns b Fs) ≡ number Fs (length Fs)
length_from ns b [] = refl
length_from ns b (F ∷ Fs) =
    let a : length (translate_function ns b F ++ translate_from ns (b + targets F) Fs) ≡ length (translate_function ns b F) + length (translate_from ns (b + targets F) Fs) =
    length-append (translate_function ns b F) (translate_from ns (b + targets F) Fs) in
    let c : length (translate_function ns b F) ≡ targets F = length_translate_function ns b F in
    let e : length (translate_from ns (b + targets F) Fs) ≡ number Fs (length Fs) = length_from ns (b + targets F) Fs in
    omega arith

-- The functions from f on.
unfoldable pub functions_from : List ℕ → ℕ → List ℕ
functions_from s f = joined target_bytes (translate_from (number (program_of s)) (number (program_of s) f) (drop f (program_of s)))

pub functions_first : (s : List ℕ) → functions_bytes s ≡ functions_from s 0
unfolding functions_bytes functions_from translate
functions_first s = refl

pub functions_more : (s : List ℕ) (f : ℕ) → f < length (program_of s) → functions_from s f ≡ function_bytes s f ++ functions_from s (f + 1)
unfolding functions_from function_bytes
functions_more s f h =
    let P = program_of s in
    ap (λ (l : List Function). joined target_bytes (translate_from (number P) (number P f) l)) (drop-cons P f no_function h)
    ∙ (joined_append target_bytes (translate_function (number P) (number P f) (function_of P f)) (translate_from (number P) (number P f + targets (function_of P f)) (drop (suc f) P))
    ∙ (ap (λ (k : ℕ). joined target_bytes (translate_function (number P) (number P f) (function_of P f)) ++ joined target_bytes (translate_from (number P) k (drop (suc f) P))) (sym (number_next P f h))
    ∙ ap (λ (k : ℕ). joined target_bytes (translate_function (number P) (number P f) (function_of P f)) ++ joined target_bytes (translate_from (number P) (number P k) (drop k P))) (sym (add-one f))))

pub functions_none : (s : List ℕ) (f : ℕ) → length (program_of s) ≤ f → functions_from s f ≡ []
unfolding functions_from
functions_none s f h = ap (λ (l : List Function). joined target_bytes (translate_from (number (program_of s)) (number (program_of s) f) l)) (drop_of_length-le (program_of s) h)

-- Counting the functions: mark, version and count take 7 bytes.
translation_size : (s : List ℕ) → length (translation_of s) ≡ 7 + length (functions_bytes s)
unfolding translation_of writing functions_bytes
translation_size s = omega arith

pub record Functions (s : List ℕ) (f n : ℕ) : Type 0 where
  pub is : n + length (functions_from s f) ≡ length (translation_of s)
  pub size_bound : n ≤ 7 + 536870912 * f

pub functions_start : (s : List ℕ) → Functions s 0 7
functions_start s =
    let a : length (translation_of s) ≡ 7 + length (functions_bytes s) = translation_size s in
    let e : length (functions_bytes s) ≡ length (functions_from s 0) = ap length (functions_first s) in
    record { is = omega arith; size_bound = omega arith }

pub functions_next : {s : List ℕ} {f n k : ℕ} → Functions s f n → f < length (program_of s) → k ≡ length (function_bytes s f) → k ≤ 536870912 → Functions s (f + 1) (n + k)
functions_next {s} {f} {n} {k} B h ek lk =
    let a : length (functions_from s f) ≡ length (function_bytes s f) + length (functions_from s (f + 1)) = ap length (functions_more s f h) ∙ length-append (function_bytes s f) (functions_from s (f + 1)) in
    let d : n + length (functions_from s f) ≡ length (translation_of s) = B.is in
    let e : n ≤ 7 + 536870912 * f = B.size_bound in
    record { is = omega arith; size_bound = omega arith }

pub functions_end : {s : List ℕ} {f n : ℕ} → Functions s f n → length (program_of s) ≤ f → n ≡ length (translation_of s)
functions_end {s} {f} {n} B h =
    let a : length (functions_from s f) ≡ 0 = ap length (functions_none s f h) in
    let d : n + length (functions_from s f) ≡ length (translation_of s) = B.is in
    omega arith

-- The numbers of functions, as they are counted.
number_bound : (P : Program) → ((f : ℕ) → f < length P → length (function_of P f).blocks ≤ 63) → (g : ℕ) → g ≤ length P → number P g ≤ 64 * g
number_bound P B zero h = omega arith
number_bound P B (suc g) h = omega (arith, number_bound P B g (omega arith), B g h, number_next P g h)

module _ (s : List ℕ) (L : Laid s) where
  pub base_bound_lem : (f : ℕ) → f ≤ length (program_of s) → number (program_of s) f ≤ 64 * f
  base_bound_lem f h = number_bound (program_of s) (λ g k. blocks_bound_lem s L g k) f h

  pub functions_bound : length (program_of s) ≤ 32
  functions_bound = (laid_reads L).most

-- The numbers of the functions before f stand in the table.
pub record Numbering (s : List ℕ) (f n : ℕ) (ns : List ℕ) : Type 0 where
  pub is : n ≡ number (program_of s) f
  pub done : (g : ℕ) → g < f → get_or ns g 0 ≡ number (program_of s) g
  pub counter_bound : f ≤ length (program_of s)
  pub table_length : length ns ≡ 32

pub numbering_none : (s ns : List ℕ) → length ns ≡ 32 → Numbering s 0 0 ns
numbering_none s ns w = record { is = refl; done = λ g h. absurd (omega arith); counter_bound = omega arith; table_length = w }

module _ {s : List ℕ} (L : Laid s) {f n : ℕ} {ns : List ℕ} (N : Numbering s f n ns) where
  pub numbering_bound : (n ≤ 2048) × (f ≤ 32)
  numbering_bound =
      let b = functions_bound s L in
      (omega (arith, N.is, N.counter_bound, base_bound_lem s L f N.counter_bound, b), omega (arith, N.counter_bound, b))

  pub numbering_more : {k : ℕ} → f < length (program_of s) → k ≡ length (function_of (program_of s) f).blocks → Numbering s (f + 1) (n + (1 + k)) (set ns f n)
  numbering_more {k} h ek =
      let P = program_of s in
      let i : f + 1 ≡ suc f = omega arith in
      record {
        is = omega (arith, ek, N.is, number_next P f h) ∙ ap (number P) (sym i);
        done = λ g j. by g j (dec_lt g f);
        counter_bound = omega arith;
        table_length = length-set ns f n ∙ N.table_length;
      }
    where
      by : (g : ℕ) → g < f + 1 → Dec (g < f) → get_or (set ns f n) g 0 ≡ number (program_of s) g
      by g j (yes p) = get_or-set_other ns f g n 0 (λ q. absurd (omega arith)) ∙ N.done g p
      by g j (no p) =
          let q : g ≡ f = omega arith in
          rw q (get_or-set_same ns f n 0 (omega (arith, N.table_length, functions_bound s L)) ∙ N.is)

  pub numbering_end : length (program_of s) ≤ f → (n ≡ length (translate (program_of s))) × (n ≤ 2048) × Numbered s ns
  unfolding translate
  numbering_end h =
      let P = program_of s in
      let e : f ≡ length P = omega (arith, N.counter_bound) in
      (N.is ∙ ap (number P) e ∙ sym (length_from (number P) 0 P), numbering_bound.0, λ g k. N.done g (omega arith))

-- Writing the part of a block.
module _ {s : List ℕ} (K : FileInvariant s) (f : ℕ) (there : f < length (program_of s)) (l : ℕ) (block : l ≤ length (function_of (program_of s) f).blocks)
    (x : Fields) (e : x ≡ fields_of (program_of s) f l) (ns : List ℕ) (N : Numbered s ns) (base : ℕ) (eb : base ≡ get_or ns f 0) where
  pub label_placed : Placed s ns base x.under.variables x.start
  label_placed =
      record {
        here = label_here K f there l block x e;
        numbered = N;
        base_bound = omega (arith, eb, N f there, number_bound (program_of s) (λ g k. (K.counts g k).blocks) f (omega arith), K.most);
      }

  pub label_part : label_bytes s f l ≡ part_bytes s base x.params x.locals x.under x.start
  label_part = rw (eb, N f there) (label_is K f there l block x e)

-- The translation of a loaded file has its version.
first_version : (P : Program) → 1 ≤ length P → code_version (translate P) ≡ (function_of P 0).version
unfolding translate
first_version [] h = absurd (omega arith)
first_version (F ∷ P) h = refl

pub version_kept : {s : List ℕ} → Laid s → FileInvariant s → {v : ℕ} → v ≡ version_of s → v ≡ code_version (translate (program_of s))
version_kept {s} L K ev =
    let h : 1 ≤ length (program_of s) = (laid_reads L).least in
    ev ∙ sym (first_version (program_of s) h ∙ K.version 0 h)

-- The whole file: mark, version, count, functions.
module _ (s : List ℕ) {o : ℕ} {d : List ℕ} (R : Room o (length (translation_of s)) d) where
  whole : Room o (7 + length (functions_bytes s)) d
  whole = room_as (sym (translation_size s)) R

  pub mark_room : Room o 3 d
  mark_room = room_less whole (omega arith)

  module _ {a : ℕ} {mark d₁ : List ℕ} (three : length mark ≡ 3) (W : Wrote o mark d a d₁) where
    pub version_room : Room a 2 d₁
    version_room = room_behind 2 whole W (omega arith)

    module _ {b : ℕ} {version d₂ : List ℕ} (two : length version ≡ 2) (X : Wrote a version d₁ b d₂) where
      third : Room b (2 + length (functions_bytes s)) d₂
      third = room_behind_two (2 + length (functions_bytes s)) whole W X (omega arith)

      pub targets_room : Room b 2 d₂
      targets_room = room_less third (omega arith)

      pub functions_room : {c : ℕ} {count d₃ : List ℕ} → length count ≡ 2 → Wrote b count d₂ c d₃ → Room c (length (functions_bytes s)) d₃
      functions_room e Y = room_behind (length (functions_bytes s)) third Y (omega arith)

  pub file_wrote : {n v a b c r : ℕ} {d₁ d₂ d₃ d₄ : List ℕ} → v ≡ code_version (translate (program_of s)) → n ≡ length (translate (program_of s))
      → Wrote o (83 ∷ 80 ∷ 67 ∷ []) d a d₁ → Wrote a (v ∷ 0 ∷ []) d₁ b d₂ → Wrote b (pair_bytes n) d₂ c d₃ → Wrote c (functions_bytes s) d₃ r d₄ → Wrote o (translation_of s) d r d₄
  unfolding translation_of writing functions_bytes
  file_wrote {v = v} ev e W X Y Q =
      let count : List ℕ = pair_bytes (length (translate (program_of s))) in
      rw (← ev)
      (wrote_after (83 ∷ 80 ∷ 67 ∷ []) ((v ∷ 0 ∷ []) ++ (count ++ functions_bytes s)) whole (omega arith) W
      (wrote_after (v ∷ 0 ∷ []) (count ++ functions_bytes s) (version_room refl W) (omega arith) X
      (wrote_after count (functions_bytes s) (targets_room refl W refl X) (omega arith) (pair_as e Y) Q)))
