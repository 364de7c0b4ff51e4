-- The translation of a merged file is as long as the two files' translations, one head less.
use Prim.Native.Nat.{ℕ, zero, suc, ◌+◌, ◌≤◌}
use Rattle.std.proofs.Common.{arith, sym, ◌∙◌, append_assoc, length-append}
use Rattle.std.specs.Prelude.{◌≡◌, List, [], ◌∷◌, ◌++◌, map, length}
use Rattle.std.proofs.Math.Path.{refl, ap}
use Rattle.std.proofs.Math.Option.{Option, none, some}
use Rattle.parsing.specs.Parser.{joined}
use Rattle.parsing.specs.ParserLaws.{joined_append}
use Rattle.semantics.specs.Program.{FunctionNumber, Variable, Label, Handler, Block, constant, copy, difference, call, goto, return, branch, raise, Labelled, Function, Program, variables}
use Rattle.semantics.specs.Bench.{labelled_at}
use Rattle.semantics.specs.Merge.{renumbered_block, renumbered_labelled, renumbered_function, merged}
use Rattle.semantics.specs.Code.{Slot, Expr, Target, Code}
use Rattle.semantics.specs.Translation.{slot_of, to_label, receiver_in, receiver_at, receiver_slot, parameter_slot, bind_raised, raise_code, code, bind_zeros, entry_target, block_target, targets, number, translate_function, translate_from, translate}
use Rattle.target_file.specs.Writing.{slot_width, size, target_bytes, writing}
use Rattle.target_file.proofs.ReadsBackLaws.{bytes_length}

zeros_size : (x : Slot) (n : ℕ) (e e' : Expr) → size e ≡ size e' → size (bind_zeros x n e) ≡ size (bind_zeros x n e')
zeros_size x zero e e' q = q
zeros_size x (suc n) e e' q = ap (λ (k : ℕ). 2 + (4 + k)) (zeros_size (suc x) n e e' q)

target_size : (D D' : Target) → size D.body ≡ size D'.body → length (target_bytes D) ≡ length (target_bytes D')
target_size D D' q = let a = bytes_length D.body in let b = bytes_length D'.body in omega (arith, a, b, q)

joined_length : (a b : Code) → length (joined target_bytes (a ++ b)) ≡ length (joined target_bytes a) + length (joined target_bytes b)
joined_length a b = ap length (joined_append target_bytes a b) ∙ length-append (joined target_bytes a) (joined target_bytes b)

-- Neither the numbers of functions nor a renumbering of calls changes a size.
module _ (ns ns' : FunctionNumber → ℕ) (k : ℕ) where
  -- The renumbered function has the same receivers.
  receiver_same : (Bs : List Labelled) (l : Label) → receiver_in (labelled_at (map (renumbered_labelled k) Bs) l) ≡ receiver_in (labelled_at Bs l)
  receiver_same Bs zero = refl
  receiver_same [] (suc l) = refl
  receiver_same (B ∷ Bs) (suc zero) = refl
  receiver_same (B ∷ Bs) (suc (suc l)) = receiver_same Bs (suc l)

  bound_size : (s : Option Slot) (r : Option Variable) (base base' v : ℕ) (l : Label) → size (bind_raised s r (to_label base v l)) ≡ size (bind_raised s r (to_label base' v l))
  bound_size none r base base' v l = refl
  bound_size (some s) none base base' v l = refl
  bound_size (some s) (some y) base base' v l = refl

  module _ (F : Function) where
    abbrev G : Function
    G = renumbered_function k F

    raise_size_lem : (base base' : ℕ) (h : Handler) (r : Option Variable) → size (raise_code base G h r) ≡ size (raise_code base' F h r)
    raise_size_lem base base' zero none = refl
    raise_size_lem base base' zero (some y) = refl
    raise_size_lem base base' (suc l) r =
        ap (λ (q : Option Variable). size (bind_raised (receiver_slot q) r (to_label base (variables F) (suc l)))) (receiver_same F.blocks (suc l))
        ∙ bound_size (receiver_slot (receiver_at F (suc l))) r base base' (variables F) (suc l)

    parameter_same : (q : Option Variable) → parameter_slot G q ≡ parameter_slot F q
    parameter_same none = refl
    parameter_same (some x) = refl

    code_size_lem : (base base' : ℕ) (h : Handler) (b : Block) → size (code ns base G h (renumbered_block k b)) ≡ size (code ns' base' F h b)
    unfolding code
    code_size_lem base base' h (constant x i b) = ap (λ (n : ℕ). 2 + (4 + n)) (code_size_lem base base' h b)
    code_size_lem base base' h (copy x y b) = ap (λ (n : ℕ). 3 + n) (code_size_lem base base' h b)
    code_size_lem base base' h (difference x y z b) = let a = raise_size_lem base base' h none in let c = code_size_lem base base' h b in omega (arith, a, c)
    code_size_lem base base' zero (call x g ys b) = let c = code_size_lem base base' zero b in omega (arith, c)
    code_size_lem base base' (suc l) (call x g ys b) =
        let c = code_size_lem base base' (suc l) b in
        omega (arith, c, ap slot_width (parameter_same (receiver_at G (suc l)) ∙ ap (parameter_slot F) (receiver_same F.blocks (suc l))))
    code_size_lem base base' h (goto l) = refl
    code_size_lem base base' h (return x) = refl
    code_size_lem base base' h (branch y z l m) = refl
    code_size_lem base base' h (raise r) = raise_size_lem base base' h r

    blocks_size : (base base' : ℕ) (Bs : List Labelled)
        → length (joined target_bytes (map (block_target ns base G) (map (renumbered_labelled k) Bs))) ≡ length (joined target_bytes (map (block_target ns' base' F) Bs))
    blocks_size base base' [] = refl
    blocks_size base base' (B ∷ Bs) =
        let D = block_target ns base G (renumbered_labelled k B) in
        let D' = block_target ns' base' F B in
        omega (
          arith,
          target_size D D' (code_size_lem base base' B.handler B.block),
          blocks_size base base' Bs,
          length-append (target_bytes D) (joined target_bytes (map (block_target ns base G) (map (renumbered_labelled k) Bs))),
          length-append (target_bytes D') (joined target_bytes (map (block_target ns' base' F) Bs)),
        )

  function_size : (base base' : ℕ) (F : Function)
      → length (joined target_bytes (translate_function ns base (renumbered_function k F))) ≡ length (joined target_bytes (translate_function ns' base' F))
  function_size base base' F =
      let G = renumbered_function k F in
      let D = entry_target ns base G in
      let D' = entry_target ns' base' F in
      omega (
        arith,
        target_size D D' (zeros_size (slot_of F.params) F.locals (code ns base G 0 G.entry) (code ns' base' F 0 F.entry) (code_size_lem F base base' 0 F.entry)),
        blocks_size F base base' F.blocks,
        length-append (target_bytes D) (joined target_bytes (map (block_target ns base G) G.blocks)),
        length-append (target_bytes D') (joined target_bytes (map (block_target ns' base' F) F.blocks)),
      )

  from_size : (base base' : ℕ) (Fs : List Function)
      → length (joined target_bytes (translate_from ns base (map (renumbered_function k) Fs))) ≡ length (joined target_bytes (translate_from ns' base' Fs))
  from_size base base' [] = refl
  from_size base base' (F ∷ Fs) =
      let G = renumbered_function k F in
      let Gs = map (renumbered_function k) Fs in
      let a = translate_function ns base G in
      let b = translate_from ns (base + targets G) Gs in
      let a' = translate_function ns' base' F in
      let b' = translate_from ns' (base' + targets F) Fs in
      let c : length (joined target_bytes (a ++ b)) ≡ length (joined target_bytes a) + length (joined target_bytes b) = joined_length a b in
      let c' : length (joined target_bytes (a' ++ b')) ≡ length (joined target_bytes a') + length (joined target_bytes b') = joined_length a' b' in
      omega (arith, c, c', function_size base base' F, from_size (base + targets G) (base' + targets F) Fs)

-- The same functions, under other numbers.
same_size : (ns ns' : FunctionNumber → ℕ) (base base' : ℕ) (Fs : List Function) → length (joined target_bytes (translate_from ns base Fs)) ≡ length (joined target_bytes (translate_from ns' base' Fs))
same_size ns ns' base base' Fs = sym (from_size ns ns 0 base base Fs) ∙ from_size ns ns' 0 base base' Fs

-- Two lists of functions in a row.
row : (ns : FunctionNumber → ℕ) (base : ℕ) (Fs Gs : List Function) → (b : ℕ) × (translate_from ns base (Fs ++ Gs) ≡ translate_from ns base Fs ++ translate_from ns b Gs)
row ns base [] Gs = (base, refl)
row ns base (F ∷ Fs) Gs =
    let r = row ns (base + targets F) Fs Gs in
    let a = translate_function ns base F in
    (r.0, ap (λ (Q : Code). a ++ Q) r.1 ∙ sym (append_assoc a (translate_from ns (base + targets F) Fs) (translate_from ns r.0 Gs)))

writing_length : (Q : Code) → length (writing Q) ≡ 7 + length (joined target_bytes Q)
unfolding writing
writing_length Q = omega arith

pub head_long : (Q : Code) → 7 ≤ length (writing Q)
head_long Q = omega (arith, writing_length Q)

pub merged_size : (P Q : Program) → length (writing (translate (merged P Q))) + 7 ≡ length (writing (translate P)) + length (writing (translate Q))
unfolding translate merged
merged_size P Q =
    let Gs = map (renumbered_function (length P)) Q in
    let ns = number (P ++ Gs) in
    let r = row ns 0 P Gs in
    let a = translate_from ns 0 P in
    let b = translate_from ns r.0 Gs in
    omega (
      arith,
      writing_length (translate_from ns 0 (P ++ Gs)),
      writing_length (translate_from (number P) 0 P),
      writing_length (translate_from (number Q) 0 Q),
      ap (λ (R : Code). length (joined target_bytes R)) r.1 ∙ joined_length a b,
      same_size ns (number P) 0 0 P,
      from_size ns (number Q) (length P) r.0 0 Q,
    )
