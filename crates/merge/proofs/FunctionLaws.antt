-- Labelled blocks and functions, written one behind the other.
use Rattle.std.specs.Prelude.{ℕ, zero, suc, ◌+◌, ◌-◌, ◌≤◌, ◌<◌, ◌≡◌, refl, length, get_or, drop}
use Rattle.std.proofs.Common.{arith, sym, ◌∙◌, subst, drop_of_length-le, drop-cons}
use Rattle.std.proofs.Math.Numerals.{add-one}
use Rattle.std.proofs.Math.Path.{ap}
use mathlib.Core.List.{List, [], ◌∷◌, ◌++◌, map}
use Rattle.std.proofs.lemmas.List.{length-map}
use Rattle.parsing.specs.Parser.{joined}
use Rattle.parsing.specs.Fields.{version_of}
use Rattle.parsing.specs.BytesAtLaws.{bytes_at_cons}
use Rattle.semantics.specs.Program.{Block, Labelled, Function, function_of, no_function}
use Rattle.semantics.specs.Merge.{renumbered_block, renumbered_labelled, renumbered_function}
use Rattle.procedure_layout.specs.Layout.{bytes_before}
use Rattle.procedure_names.specs.Writing.{block_bytes, receiver_bytes, labelled_bytes, function_bytes}
use Rattle.procedure_file.specs.Check.{program_of}
use Rattle.procedure_file.specs.Places.{label_place, start_of, no_labelled, block_of}
use Rattle.procedure_file.specs.Loaded.{Laid}
use Rattle.procedure_file.specs.FileInvariant.{FileInvariant}
use Rattle.procedure_file.proofs.AcceptedLaws.{laid_reads}
use Rattle.procedure_file.specs.PlacesLaws.{version_is_lem, label_at}
use Rattle.procedure_file.proofs.TableLaws.{start_room, start_behind, before_room}
use Rattle.byte_writers.specs.Writes.{Room}
use Rattle.byte_writers.specs.WriteLaws.{Rest, rest_from_lem}
use Rattle.merge.specs.Parts.{stretch, rest_bytes, entry_bytes, label_head, label_bytes}
use Rattle.merge.specs.Asked.{OperationInFile}
use Rattle.merge.proofs.StretchLaws.{stretch_is}

-- What stands before a labelled block that starts at x.
label_head_lem : (s : List ℕ) (L : Laid s) (f : ℕ) (there : f < length (program_of s)) (l x b : ℕ) → 1 ≤ l → l ≤ length (function_of (program_of s) f).blocks
    → x ≡ start_of (program_of s) f l → b ≡ bytes_before (version_of s) → stretch s (x - b) x ≡ label_head s f l
label_head_lem s L f there zero x b some known ex eb = absurd (omega arith)
label_head_lem s L f there (suc l) x b some known ex eb =
    let P = program_of s in
    let B = get_or (function_of P f).blocks l no_labelled in
    let at = label_place P f l in
    let next = at + bytes_before (version_of s) in
    let R = label_at s L.bytes P (laid_reads L) f there l (omega arith) in
    let w = bytes_at_cons s R.inside R.receives.bytes in
    let en : x ≡ next = ex ∙ start_behind s L f there l in
    let ea : x - b ≡ at = omega (arith, en) in
    rw (ea, en) (stretch_is s at next _ (drop next s) w.stands w.past)
    ∙ (ap (λ (h : ℕ). h ∷ receiver_bytes (version_of s) B.receiver) (sym R.handler_is)
    ∙ ap (λ (v : ℕ). B.handler ∷ receiver_bytes v B.receiver) (sym (version_is_lem s L.bytes P (laid_reads L) f there)))

-- The block with label l of function f, which starts at x.
module _ {s : List ℕ} (K : FileInvariant s) {f : ℕ} (there : f < length (program_of s)) {l : ℕ} (block : l ≤ length (function_of (program_of s) f).blocks) {x : ℕ}
    (ex : x ≡ start_of (program_of s) f l) where
  pub block_stands : OperationInFile s x
  block_stands = subst (OperationInFile s) (sym ex) (record { invariant = K; function = f; stands = K.start f l there block })

  block_is : (n : ℕ) → rest_bytes s x n ≡ block_bytes (renumbered_block n (block_of (function_of (program_of s) f) l))
  unfolding rest_bytes
  block_is n = ap (λ (k : ℕ). rest_bytes s k n) ex ∙ ap (λ (b : Block). block_bytes (renumbered_block n b)) (K.block f l there block)

  -- The b bytes before it, then its operations.
  module _ (L : Laid s) (labelled : 1 ≤ l) {b : ℕ} (eb : b ≡ bytes_before (version_of s)) where
    pub head_fits : (b ≤ x) × (x ≤ length s)
    head_fits = (before_room s L f there l x b labelled block ex eb, omega (arith, (start_room s L f there l x block ex).1))

    pub label_rest : (n : ℕ) {o : ℕ} {d : List ℕ} → Room o (length (label_bytes s f l n)) d → Rest o (label_bytes s f l n) d o (stretch s (x - b) x ++ rest_bytes s x n) d
    unfolding label_bytes
    label_rest n R = rest_from_lem R (rw (label_head_lem s L f there l x b labelled block ex eb, block_is n))

-- The counts p, q and k of function f, then its entry block, which starts at x.
pub entry_rest : {s : List ℕ} → FileInvariant s → {f : ℕ} → f < length (program_of s) → {x : ℕ} → x ≡ start_of (program_of s) f 0 → (p q k n : ℕ) {o : ℕ} {d : List ℕ}
    → p ≡ (function_of (program_of s) f).params → q ≡ (function_of (program_of s) f).locals → k ≡ length (function_of (program_of s) f).blocks → Room o (length (entry_bytes s f n)) d
    → Rest o (entry_bytes s f n) d o ((p ∷ q ∷ k ∷ []) ++ rest_bytes s x n) d
unfolding entry_bytes
entry_rest K there ex p q k n ep eq ek R = rest_from_lem R (rw (ep, eq, ek, block_is K there {l = 0} (omega arith) ex n))

-- The labelled blocks of function f behind the first l.
unfoldable pub labels_from : List ℕ → ℕ → ℕ → ℕ → List ℕ
labels_from s f l n = joined (labelled_bytes (function_of (program_of s) f).version) (map (renumbered_labelled n) (drop l (function_of (program_of s) f).blocks))

module _ (s : List ℕ) (f l n : ℕ) where
  pub labels_more : l < length (function_of (program_of s) f).blocks → labels_from s f l n ≡ label_bytes s f (l + 1) n ++ labels_from s f (l + 1) n
  unfolding labels_from label_bytes
  labels_more h =
      let F = function_of (program_of s) f in
      rw add-one (ap (λ (xs : List Labelled). joined (labelled_bytes F.version) (map (renumbered_labelled n) xs)) (drop-cons F.blocks l no_labelled h))

  pub labels_none : length (function_of (program_of s) f).blocks ≤ l → labels_from s f l n ≡ []
  unfolding labels_from
  labels_none h =
      let F = function_of (program_of s) f in
      ap (λ (xs : List Labelled). joined (labelled_bytes F.version) (map (renumbered_labelled n) xs)) (drop_of_length-le F.blocks h)

-- A function: its counts and entry block, then its labelled blocks.
pub function_is : (s : List ℕ) (f n : ℕ) → function_bytes (renumbered_function n (function_of (program_of s) f)) ≡ entry_bytes s f n ++ labels_from s f 0 n
unfolding entry_bytes labels_from
function_is s f n = rw (length-map (function_of (program_of s) f).blocks (renumbered_labelled n))

-- The functions from f on.
unfoldable pub functions_from : List ℕ → ℕ → ℕ → List ℕ
functions_from s f n = joined function_bytes (map (renumbered_function n) (drop f (program_of s)))

module _ (s : List ℕ) (f n : ℕ) where
  pub functions_more : f < length (program_of s) → functions_from s f n ≡ function_bytes (renumbered_function n (function_of (program_of s) f)) ++ functions_from s (f + 1) n
  unfolding functions_from
  functions_more h = rw add-one (ap (λ (Fs : List Function). joined function_bytes (map (renumbered_function n) Fs)) (drop-cons (program_of s) f no_function h))

  pub functions_none : length (program_of s) ≤ f → functions_from s f n ≡ []
  unfolding functions_from
  functions_none h = ap (λ (Fs : List Function). joined function_bytes (map (renumbered_function n) Fs)) (drop_of_length-le (program_of s) h)

pub functions_first : (s : List ℕ) (n : ℕ) → joined function_bytes (map (renumbered_function n) (program_of s)) ≡ functions_from s 0 n
unfolding functions_from
functions_first s n = refl
