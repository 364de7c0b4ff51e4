-- The whole merged file: its size, its parts, and what is asked of those who write it.
use Rattle.parsing.specs.declared.Refusal.{Refusal}
use Rattle.std.specs.Prelude.{ℕ, ◌+◌, ◌-◌, ◌≤◌, ◌≡◌, refl, leb, eqb, length, drop, Ok, Result}
use Rattle.std.proofs.Common.{arith, sym, ◌∙◌, leb-true, eqb-true, length-append}
use Rattle.std.proofs.Math.Path.{ap}
use mathlib.Core.List.{List, [], ◌∷◌, ◌++◌, map, append-nil}
use Rattle.std.proofs.Math.Option.{none, some}
use Rattle.parsing.specs.Parser.{Verdict, accepted, verdict_of, or_else, joined}
use Rattle.parsing.specs.Fields.{version_of}
use Rattle.parsing.specs.ParserLaws.{joined_append}
use Rattle.parsing.specs.VerdictLaws.{or_accepted, unless_accepted}
use Rattle.semantics.specs.Program.{Block, constant, copy, difference, call, goto, return, branch, raise, Labelled, Function, Program, program_version}
use Rattle.semantics.specs.Merge.{renumbered_block, renumbered_labelled, renumbered_function, merged}
use Rattle.semantics.proofs.MergeLaws.{merged_length}
use Rattle.procedure_names.specs.Writing.{block_bytes, receiver_bytes, labelled_bytes, function_bytes, writing}
use Rattle.procedure_file.specs.Check.{program_of}
use Rattle.procedure_file.specs.FileInvariant.{FileInvariant}
use Rattle.procedure_file.proofs.AcceptedLaws.{laid_reads}
use Rattle.procedure_file.specs.Loaded.{Laid}
use Rattle.byte_writers.specs.Writes.{Room}
use Rattle.byte_writers.specs.WriteLaws.{Rest, rest_from_lem}
use Rattle.merge.specs.Merged.{merged_of, version_verdict, size_verdict, files_verdict}
use Rattle.merge.specs.Parts.{head_bytes, stretch}
use Rattle.merge.specs.Asked.{FewFunctions}
use Rattle.merge.proofs.StretchLaws.{stretch_is}

-- ── Renumbered, the writing is as long as before ────────────────────────────────────────────────

module _ (n : ℕ) where
  block_length : (b : Block) → length (block_bytes (renumbered_block n b)) ≡ length (block_bytes b)
  block_length (constant x i b) = omega (arith, block_length b)
  block_length (copy x y b) = omega (arith, block_length b)
  block_length (difference x y z b) = omega (arith, block_length b)
  block_length (call x g ys b) = omega (arith, block_length b, length-append ys (block_bytes (renumbered_block n b)), length-append ys (block_bytes b))
  block_length (goto l) = refl
  block_length (return x) = refl
  block_length (branch y z l m) = refl
  block_length (raise none) = refl
  block_length (raise (some x)) = refl

  labels_length : (v : ℕ) (Bs : List Labelled) → length (joined (labelled_bytes v) (map (renumbered_labelled n) Bs)) ≡ length (joined (labelled_bytes v) Bs)
  labels_length v [] = refl
  labels_length v (B ∷ Bs) =
      let C = renumbered_labelled n B in
      omega (
        arith,
        block_length B.block,
        labels_length v Bs,
        length-append (receiver_bytes v B.receiver) (block_bytes C.block),
        length-append (receiver_bytes v B.receiver) (block_bytes B.block),
        length-append (labelled_bytes v C) (joined (labelled_bytes v) (map (renumbered_labelled n) Bs)),
        length-append (labelled_bytes v B) (joined (labelled_bytes v) Bs),
      )

  functions_length : (Fs : List Function) → length (joined function_bytes (map (renumbered_function n) Fs)) ≡ length (joined function_bytes Fs)
  functions_length [] = refl
  functions_length (F ∷ Fs) =
      let G = renumbered_function n F in
      omega (
        arith,
        block_length F.entry,
        labels_length F.version F.blocks,
        functions_length Fs,
        length-append (block_bytes G.entry) (joined (labelled_bytes F.version) G.blocks),
        length-append (block_bytes F.entry) (joined (labelled_bytes F.version) F.blocks),
        length-append (function_bytes G) (joined function_bytes (map (renumbered_function n) Fs)),
        length-append (function_bytes F) (joined function_bytes Fs),
      )

-- ── The parts of the file ───────────────────────────────────────────────────────────────────────

writing_length : (P : Program) → length (writing P) ≡ 6 + length (joined function_bytes P)
unfolding writing
writing_length P = omega arith

-- The functions of an accepted file, as they stand.
functions_stand : {s : List ℕ} → FileInvariant s → stretch s 6 (length s) ≡ joined function_bytes (program_of s)
unfolding writing
functions_stand {s} F =
    let w = joined function_bytes (program_of s) in
    stretch_is s 6 (length s) w [] (ap (drop 6) F.written ∙ sym (append-nil w)) (omega (arith, ap length F.written))

module _ (s t : List ℕ) where
  parts_are : merged_of s t
      ≡ head_bytes (program_version (merged (program_of s) (program_of t))) (length (merged (program_of s) (program_of t)))
      ++ (joined function_bytes (program_of s) ++ joined function_bytes (map (renumbered_function (length (program_of s))) (program_of t)))
  unfolding merged_of writing merged
  parts_are =
      let P = program_of s in
      let Fs = map (renumbered_function (length P)) (program_of t) in
      ap (λ (w : List ℕ). head_bytes (program_version (P ++ Fs)) (length (P ++ Fs)) ++ w) (joined_append function_bytes P Fs)

  -- Its size, as it is counted.
  merged_size : FileInvariant s → FileInvariant t → (6 ≤ length s) × (6 ≤ length t) × (length s + (length t - 6) ≡ length (merged_of s t))
  merged_size F G =
      let P = program_of s in
      let Q = program_of t in
      let a : length s ≡ 6 + length (joined function_bytes P) = ap length F.written ∙ writing_length P in
      let b : length t ≡ 6 + length (joined function_bytes Q) = ap length G.written ∙ writing_length Q in
      let c : length (merged_of s t) ≡ 6 + length (joined function_bytes P ++ joined function_bytes (map (renumbered_function (length P)) Q)) = ap length parts_are ∙ omega arith in
      let e = length-append (joined function_bytes P) (joined function_bytes (map (renumbered_function (length P)) Q)) in
      (omega arith, omega arith, omega (arith, e, functions_length (length P) Q))

-- A merged program has the first's version.
pub merged_version : (P Q : Program) → 1 ≤ length P → program_version (merged P Q) ≡ program_version P
unfolding merged
merged_version [] Q h = absurd (omega arith)
merged_version (F ∷ Fs) Q h = refl

-- Two accepted files.
module _ {s t : List ℕ} (F : FileInvariant s) (G : FileInvariant t) where
  pub first_long : 6 ≤ length s
  first_long = (merged_size s t F G).0

  pub second_long : 6 ≤ length t
  second_long = (merged_size s t F G).1

  pub size_is : length s + (length t - 6) ≡ length (merged_of s t)
  size_is = (merged_size s t F G).2

  -- The merged file has the first's version.
  version_is_lem : Laid s → program_version (merged (program_of s) (program_of t)) ≡ version_of s
  version_is_lem L = let least = (laid_reads L).least in merged_version (program_of s) (program_of t) least ∙ F.version 0 (omega (arith, least))

  -- The head, the first file's functions, the second's.
  pub file_rest : Laid s → (version all kept : ℕ) {d : List ℕ} → version ≡ version_of s → all ≡ length (merged (program_of s) (program_of t)) → kept ≡ length (program_of s)
      → Room 0 (length (merged_of s t)) d
      → Rest 0 (merged_of s t) d 0 (head_bytes version all ++ (stretch s 6 (length s) ++ joined function_bytes (map (renumbered_function kept) (program_of t)))) d
  file_rest L version all kept ev ea ek R = rest_from_lem R (rw (ev, ea, ek, ← version_is_lem L, functions_stand F) (parts_are s t))

  -- What was counted: the functions of each file.
  module _ {m k : ℕ} (em : m ≡ length (program_of s)) (ek : k ≡ length (program_of t)) where
    pub few : (m ≤ 32) × (k ≤ 32)
    few = (omega (arith, F.most), omega (arith, G.most))

    pub count_is_lem : m + k ≡ length (merged (program_of s) (program_of t))
    count_is_lem = omega (arith, merged_length (program_of s) (program_of t))

    pub files_judged : {v : Verdict} (room : ℕ) → v ≡ or_else (version_verdict s t) (size_verdict (m + k) (length s + (length t - 6)) room) → v ≡ files_verdict s t room
    unfolding files_verdict
    files_judged room e = e ∙ rw (count_is_lem, size_is)

-- ── A merged file that fits ─────────────────────────────────────────────────────────────────────

pub record Fitting (s t : List ℕ) (room : ℕ) : Type 0 where
  pub same_version : version_of s ≡ version_of t
  pub function_bound : length (merged (program_of s) (program_of t)) ≤ 32
  pub byte_bound : length (merged_of s t) ≤ 32768
  pub room_bound : length (merged_of s t) ≤ room

pub fitting : (s t : List ℕ) (room : ℕ) → files_verdict s t room ≡ accepted → Fitting s t room
unfolding files_verdict version_verdict size_verdict
fitting s t room e =
    let n = length (merged (program_of s) (program_of t)) in
    let m = length (merged_of s t) in
    let v = or_accepted _ _ e in
    let a = or_accepted _ _ v.1 in
    let b = or_accepted _ _ a.1 in
    record {
      same_version = eqb-true (version_of s) (version_of t) (unless_accepted (eqb (version_of s) (version_of t)) _ _ v.0);
      function_bound = leb-true n 32 (unless_accepted (leb n 32) _ _ a.0);
      byte_bound = leb-true m 32768 (unless_accepted (leb m 32768) _ _ b.0);
      room_bound = leb-true m room (unless_accepted (leb m room) _ _ b.1);
    }

pub fitting_room : (s t d : List ℕ) {c : Result (Unit {0}) Refusal} → verdict_of c ≡ files_verdict s t (length d) → c ≡ (Ok tt) → FewFunctions s t × Room 0 (length (merged_of s t)) d
fitting_room s t d e q =
    let f = fitting s t (length d) (sym e ∙ ap verdict_of q) in
    (f.function_bound, record { fits = omega (arith, f.room_bound); small = omega (arith, f.byte_bound) })
