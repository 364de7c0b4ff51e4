-- The blocks of a function, as they are counted and written one behind the other.
use Rattle.std.specs.Prelude.{ℕ, zero, suc, ◌+◌, ◌*◌, ◌≤◌, ◌<◌, ◌≡◌, refl, List, [], ◌∷◌, ◌++◌, length, get_or, drop}
use Rattle.std.proofs.Common.{arith, add-one, sym, ap, ◌∙◌, length-append, drop_of_length-le, drop-cons}
use Rattle.std.proofs.Math.Option.{none}
use Rattle.parsing.specs.Parser.{joined}
use Rattle.semantics.specs.Program.{Function, function_of}
use Rattle.semantics.specs.Code.{Target, Code, handle}
use Rattle.semantics.specs.Translation.{block_target, targets, number, translate_function}
use Rattle.semantics.proofs.TranslationLaws.{length_translate_function}
use Rattle.semantics.proofs.ListLaws.{get_d_map_below}
use Rattle.procedure_file.specs.Check.{program_of}
use Rattle.procedure_file.specs.Places.{no_labelled}
use Rattle.target_file.specs.Writing.{target_bytes}
use Rattle.translator_sizes.specs.Parts.{part_of, label_bytes, function_bytes}
use Rattle.translator_sizes.specs.Asked.{LabelSize}

no_target : Target
no_target = record { version = 1; params = 0; body = handle 0 none }

-- The blocks of function f from label l on.
abbrev pub code_from : List ℕ → ℕ → ℕ → Code
code_from s f l = drop l (translate_function (number (program_of s)) (number (program_of s) f) (function_of (program_of s) f))

unfoldable pub blocks_from : List ℕ → ℕ → ℕ → List ℕ
blocks_from s f l = joined target_bytes (code_from s f l)

pub blocks_first : (s : List ℕ) (f : ℕ) → function_bytes s f ≡ blocks_from s f 0
unfolding function_bytes blocks_from
blocks_first s f = refl

pub blocks_more : (s : List ℕ) (f l : ℕ) → l ≤ length (function_of (program_of s) f).blocks → blocks_from s f l ≡ label_bytes s f l ++ blocks_from s f (l + 1)
unfolding blocks_from label_bytes
blocks_more s f l h =
    ap (joined target_bytes) (drop-cons whole l no_target inside ∙ ap (λ (t : Target). t ∷ drop (suc l) whole) (is l h))
    ∙ ap (λ (k : ℕ). target_bytes (part_of ns base F l) ++ joined target_bytes (drop k whole)) (sym (add-one l))
  where
    ns : ℕ → ℕ
    ns = number (program_of s)

    base : ℕ
    base = number (program_of s) f

    F : Function
    F = function_of (program_of s) f

    whole : Code
    whole = translate_function ns base F

    inside : l < length whole
    inside = let e : length whole ≡ targets F = length_translate_function ns base F in omega arith

    is : (i : ℕ) → i ≤ length F.blocks → get_or whole i no_target ≡ part_of ns base F i
    is zero k = refl
    is (suc i) k = get_d_map_below (block_target ns base F) F.blocks i no_labelled no_target k

pub blocks_none : (s : List ℕ) (f l : ℕ) → length (function_of (program_of s) f).blocks < l → blocks_from s f l ≡ []
unfolding blocks_from
blocks_none s f l h =
    let e = length_translate_function (number (program_of s)) (number (program_of s) f) (function_of (program_of s) f) in
    ap (joined target_bytes) (drop_of_length-le (translate_function (number (program_of s)) (number (program_of s) f) (function_of (program_of s) f)) {i = l} (omega arith))

-- Counting them.
pub record Blocks (s : List ℕ) (f l n : ℕ) : Type 0 where
  pub is : n + length (blocks_from s f l) ≡ length (function_bytes s f)
  pub size_bound : n ≤ 8388608 * l

pub blocks_start : (s : List ℕ) (f : ℕ) → Blocks s f 0 0
blocks_start s f = let e : length (function_bytes s f) ≡ length (blocks_from s f 0) = ap length (blocks_first s f) in record { is = omega arith; size_bound = omega arith }

pub blocks_next : {s : List ℕ} {f l n k : ℕ} → Blocks s f l n → l ≤ length (function_of (program_of s) f).blocks → LabelSize s f l k → Blocks s f (l + 1) (n + k)
blocks_next {s} {f} {l} {n} {k} B h S =
    let a : length (blocks_from s f l) ≡ length (label_bytes s f l) + length (blocks_from s f (l + 1)) = ap length (blocks_more s f l h) ∙ length-append (label_bytes s f l) (blocks_from s f (l + 1)) in
    let b : k ≡ length (label_bytes s f l) = S.is in
    let c : k ≤ 8388608 = S.size_bound in
    let d : n + length (blocks_from s f l) ≡ length (function_bytes s f) = B.is in
    let e : n ≤ 8388608 * l = B.size_bound in
    record { is = omega arith; size_bound = omega arith }

pub blocks_end : {s : List ℕ} {f l n : ℕ} → Blocks s f l n → length (function_of (program_of s) f).blocks < l → n ≡ length (function_bytes s f)
blocks_end {s} {f} {l} {n} B h =
    let a : length (blocks_from s f l) ≡ 0 = ap length (blocks_none s f l h) in
    let d : n + length (blocks_from s f l) ≡ length (function_bytes s f) = B.is in
    omega arith
