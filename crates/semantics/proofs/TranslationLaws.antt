-- Where each function of the translation stands.
use Rattle.std.specs.Prelude.{ℕ, zero, suc, ◌+◌, ◌<◌, ◌≡◌, List, [], ◌∷◌, ◌++◌, length}
use Rattle.std.proofs.Common.{zero-add, add-zero, add_assoc, not-suc-le-zero, le_of_suc-le-suc, arith, sym, ap, ◌∙◌, subst}
use Rattle.std.proofs.Math.Option.{some}
use Rattle.std.proofs.Math.ListN.{get_elem?}
use Rattle.std.proofs.lemmas.List.{length-map}
use Rattle.semantics.specs.Program.{FunctionNumber, Labelled, Function, Program, function_of}
use Rattle.semantics.specs.Translation.{entry_target, block_target, targets, number, translate_function, translate_from, translate}
use Rattle.semantics.proofs.ListLaws.{at_append_left, at_append_right, at_map, at_below}

pub length_translate_function : (ns : FunctionNumber → ℕ) (b : ℕ) (F : Function) → length (translate_function ns b F) ≡ targets F
length_translate_function ns b F = ap suc (length-map F.blocks (block_target ns b F))

-- The j-th function that source function f becomes stands j past its entry.
located : (ns : FunctionNumber → ℕ) (b : ℕ) (Fs : List Function) (f j : ℕ) → f < length Fs → j < targets (function_of Fs f)
    → get_elem? (translate_from ns b Fs) (number Fs f + j) ≡ get_elem? (translate_function ns (b + number Fs f) (function_of Fs f)) j
located ns b [] f j h k = absurd (not-suc-le-zero h)
located ns b (F ∷ Fs) zero j h k =
    ap (λ (i : ℕ). get_elem? (translate_function ns b F ++ translate_from ns (b + targets F) Fs) i) (zero-add j)
    ∙ (at_append_left (translate_function ns b F) (translate_from ns (b + targets F) Fs) j (subst (λ (n : ℕ). j < n) (sym (length_translate_function ns b F)) k)
    ∙ ap (λ (c : ℕ). get_elem? (translate_function ns c F) j) (sym (add-zero b)))
located ns b (F ∷ Fs) (suc f) j h k =
    ap (λ (i : ℕ). get_elem? (translate_function ns b F ++ translate_from ns (b + targets F) Fs) i)
    (add_assoc (targets F) (number Fs f) j ∙ ap (λ (n : ℕ). n + (number Fs f + j)) (sym (length_translate_function ns b F)))
    ∙ (at_append_right (translate_function ns b F) (translate_from ns (b + targets F) Fs) (number Fs f + j)
    ∙ (located ns (b + targets F) Fs f j (le_of_suc-le-suc h) k
    ∙ ap (λ (c : ℕ). get_elem? (translate_function ns c (function_of Fs f)) j) (add_assoc b (targets F) (number Fs f))))

-- The entry of function f has number `number P f` ..
pub entry_at : (P : Program) (f : FunctionNumber) → f < length P → get_elem? (translate P) (number P f) ≡ some (entry_target (number P) (number P f) (function_of P f))
unfolding translate
entry_at P f h =
    ap (λ (i : ℕ). get_elem? (translate_from (number P) 0 P) i) (sym (add-zero (number P f)))
    ∙ (located (number P) 0 P f 0 h (omega arith)
    ∙ ap (λ (c : ℕ). some (entry_target (number P) c (function_of P f))) (zero-add (number P f)))

-- .. and its labelled blocks follow.
pub block_at : (P : Program) (f l : ℕ) (B : Labelled) → f < length P → get_elem? (function_of P f).blocks l ≡ some B
    → get_elem? (translate P) (number P f + suc l) ≡ some (block_target (number P) (number P f) (function_of P f) B)
unfolding translate
block_at P f l B h e =
    let k : l < length (function_of P f).blocks = at_below (function_of P f).blocks l B e in
    located (number P) 0 P f (suc l) h (omega arith)
    ∙ (at_map (block_target (number P) (0 + number P f) (function_of P f)) (function_of P f).blocks l B e
    ∙ ap (λ (c : ℕ). some (block_target (number P) c (function_of P f) B)) (zero-add (number P f)))
