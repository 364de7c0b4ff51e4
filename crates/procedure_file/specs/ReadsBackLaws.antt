-- The writing of a program in range is read as that program.
use Rattle.std.specs.Prelude.{ℕ, ◌+◌, ◌≤◌, ◌≡◌, refl, List, [], ◌∷◌, ◌++◌, ℤ, length, get_or, take, drop}
use Rattle.std.proofs.Common.{sym, ◌∙◌, subst, append-nil, append_assoc, arith, length-append, take_at, SFits}
use Rattle.std.proofs.Math.Path.{ap}
use Rattle.std.proofs.Math.Option.{none, some}
use Rattle.std.specs.Int.{w32}
use Rattle.parsing.specs.Parser.{read, and_then, many, joined}
use Rattle.parsing.specs.Fields.{byte, version_of, count, value_at}
use Rattle.parsing.specs.ReadsLaws.{Reads, behind, byte_here, first_here, length_here, next_here, reads_bind, reads_map, reads_many, reads_byte, reads_count, reads_head, reads_ended}
use Rattle.semantics.specs.Program.{Block, constant, copy, difference, call, goto, return, branch, raise, Labelled, Function, Program, program_version}
use Rattle.semantics.proofs.ListLaws.{all_get_d}
use Rattle.procedure_operations.specs.declared.operation.Operation.{Operation}
use Rattle.procedure_operations.specs.declared.operation.Operation.TheVariants.{Constant, Copy, Difference, Call, Goto, Return, Branch, Raise, RaiseValue}
use Rattle.procedure_operations.specs.Operation.{operation_at}
use Rattle.procedure_layout.specs.Layout.{spf, file_limit, arguments_at, block_from, before, block, receiver, labelled, heading, function, functions, program}
use Rattle.parsing.specs.Bytes.{value_bytes}
use Rattle.parsing.specs.BytesLaws.{value_forth}
use Rattle.procedure_names.specs.Writing.{block_bytes, labelled_bytes, function_bytes, writing, ValuesFit, LabelledFits, FunctionInRange, InRange}
use Rattle.procedure_names.specs.ReceiverLaws.{reads_receiver}
use Rattle.procedure_operations.specs.OperationLaws.{op_constant, op_copy, op_difference, op_call, op_goto, op_return, op_branch, op_raise, op_raise_value}
use Rattle.procedure_layout.proofs.WalkLaws.{block_law}

-- An operation before a block that is read.
block_behind : (s : List ℕ) (at m n n' : ℕ) (c : Block → Block) (b : Block) → block s at ≡ before c (block s m) → block s m ≡ read b n → n ≡ n' → block s at ≡ read (c b) n'
block_behind s at m n n' c b e r q = e ∙ ap (before c) r ∙ ap (read (c b)) q

module _ (s : List ℕ) (at : ℕ) where
  from : (o : Operation) → operation_at s at ≡ o → block s at ≡ block_from s at o (block s)
  from o e = block_law s at ∙ ap (λ x. block_from s at x (block s)) e

  constant_here : (x : ℕ) (i : ℤ) (rest : List ℕ) → SFits w32 i → drop at s ≡ 1 ∷ x ∷ (value_bytes i ++ rest) → operation_at s at ≡ Constant x i (at + 6)
  constant_here x i rest f h =
      let b = byte_here s at (1 ∷ x ∷ (value_bytes i ++ rest)) h in
      let l = length_here s at (1 ∷ x ∷ (value_bytes i ++ rest)) h in
      let p : at + 2 + 1 ≡ at + 3 = omega arith in
      let q : at + 2 + 2 ≡ at + 4 = omega arith in
      let r : at + 2 + 3 ≡ at + 5 = omega arith in
      let v : value_at s (at + 2) ≡ i = rw (p, q, r, b 2, b 3, b 4, b 5) (value_forth i f) in
      op_constant s at (first_here s at (1 ∷ x ∷ (value_bytes i ++ rest)) h) (omega arith)
      ∙ ap (λ (y : ℕ). Constant y (value_at s (at + 2)) (at + 6)) (b 1) ∙ ap (λ (z : ℤ). Constant x z (at + 6)) v

  copy_here : (x y : ℕ) (rest : List ℕ) → drop at s ≡ 2 ∷ x ∷ y ∷ rest → operation_at s at ≡ Copy x y (at + 3)
  copy_here x y rest h =
      let b = byte_here s at (2 ∷ x ∷ y ∷ rest) h in
      let l = length_here s at (2 ∷ x ∷ y ∷ rest) h in
      op_copy s at (first_here s at (2 ∷ x ∷ y ∷ rest) h) (omega arith) ∙ rw (b 1, b 2)

  difference_here : (x y z : ℕ) (rest : List ℕ) → drop at s ≡ 3 ∷ x ∷ y ∷ z ∷ rest → operation_at s at ≡ Difference x y z (at + 4)
  difference_here x y z rest h =
      let b = byte_here s at (3 ∷ x ∷ y ∷ z ∷ rest) h in
      let l = length_here s at (3 ∷ x ∷ y ∷ z ∷ rest) h in
      op_difference s at (first_here s at (3 ∷ x ∷ y ∷ z ∷ rest) h) (omega arith) ∙ rw (b 1, b 2, b 3)

  call_here : (x g n : ℕ) (rest : List ℕ) → drop at s ≡ 4 ∷ x ∷ g ∷ n ∷ rest → n ≤ length rest → operation_at s at ≡ Call x g n (at + 4 + n)
  call_here x g n rest h k =
      let b = byte_here s at (4 ∷ x ∷ g ∷ n ∷ rest) h in
      let l = length_here s at (4 ∷ x ∷ g ∷ n ∷ rest) h in
      let c : get_or s (at + 3) 0 ≡ n = b 3 in
      op_call s at (first_here s at (4 ∷ x ∷ g ∷ n ∷ rest) h) (omega arith) ∙ rw (b 1, b 2, b 3)

  goto_here : (l : ℕ) (rest : List ℕ) → drop at s ≡ 5 ∷ l ∷ rest → operation_at s at ≡ Goto l (at + 2)
  goto_here l rest h =
      let b = byte_here s at (5 ∷ l ∷ rest) h in
      let k = length_here s at (5 ∷ l ∷ rest) h in
      op_goto s at (first_here s at (5 ∷ l ∷ rest) h) (omega arith) ∙ rw (b 1)

  return_here : (x : ℕ) (rest : List ℕ) → drop at s ≡ 6 ∷ x ∷ rest → operation_at s at ≡ Return x (at + 2)
  return_here x rest h =
      let b = byte_here s at (6 ∷ x ∷ rest) h in
      let k = length_here s at (6 ∷ x ∷ rest) h in
      op_return s at (first_here s at (6 ∷ x ∷ rest) h) (omega arith) ∙ rw (b 1)

  branch_here : (y z l m : ℕ) (rest : List ℕ) → drop at s ≡ 7 ∷ y ∷ z ∷ l ∷ m ∷ rest → operation_at s at ≡ Branch y z l m (at + 5)
  branch_here y z l m rest h =
      let b = byte_here s at (7 ∷ y ∷ z ∷ l ∷ m ∷ rest) h in
      let k = length_here s at (7 ∷ y ∷ z ∷ l ∷ m ∷ rest) h in
      op_branch s at (first_here s at (7 ∷ y ∷ z ∷ l ∷ m ∷ rest) h) (omega arith) ∙ rw (b 1, b 2, b 3, b 4)

  raise_here : (rest : List ℕ) → drop at s ≡ 8 ∷ rest → operation_at s at ≡ Raise (at + 1)
  raise_here rest h =
      let k = length_here s at (8 ∷ rest) h in
      op_raise s at (first_here s at (8 ∷ rest) h) (omega arith)

  raise_value_here : (x : ℕ) (rest : List ℕ) → version_of s ≡ 2 → drop at s ≡ 9 ∷ x ∷ rest → operation_at s at ≡ RaiseValue x (at + 2)
  raise_value_here x rest v h =
      let b = byte_here s at (9 ∷ x ∷ rest) h in
      let k = length_here s at (9 ∷ x ∷ rest) h in
      op_raise_value s at (first_here s at (9 ∷ x ∷ rest) h) (omega arith) v ∙ rw (b 1)

pub reads_block : (b : Block) (s : List ℕ) → ValuesFit (version_of s) b → (at : ℕ) (rest : List ℕ) → drop at s ≡ block_bytes b ++ rest → block s at ≡ read b (at + length (block_bytes b))
reads_block (constant x i b) s f at rest h =
    block_behind s at (at + 6) _ _ (constant x i) b (from s at _ (constant_here s at x i (block_bytes b ++ rest) f.0 h))
    (reads_block b s f.1 (at + 6) rest (next_here s at (1 ∷ x ∷ (value_bytes i ++ (block_bytes b ++ rest))) h 6)) (omega arith)
reads_block (copy x y b) s f at rest h =
    block_behind s at (at + 3) _ _ (copy x y) b (from s at _ (copy_here s at x y (block_bytes b ++ rest) h))
    (reads_block b s f (at + 3) rest (next_here s at (2 ∷ x ∷ y ∷ (block_bytes b ++ rest)) h 3)) (omega arith)
reads_block (difference x y z b) s f at rest h =
    block_behind s at (at + 4) _ _ (difference x y z) b (from s at _ (difference_here s at x y z (block_bytes b ++ rest) h))
    (reads_block b s f (at + 4) rest (next_here s at (3 ∷ x ∷ y ∷ z ∷ (block_bytes b ++ rest)) h 4)) (omega arith)
reads_block (call x g ys b) s f at rest h =
    let n = length ys in
    let h' : drop at s ≡ 4 ∷ x ∷ g ∷ n ∷ (ys ++ (block_bytes b ++ rest)) = h ∙ ap (λ (l : List ℕ). 4 ∷ x ∷ g ∷ n ∷ l) (append_assoc ys (block_bytes b) rest) in
    let a : drop (at + 4) s ≡ ys ++ (block_bytes b ++ rest) = next_here s at (4 ∷ x ∷ g ∷ n ∷ (ys ++ (block_bytes b ++ rest))) h' 4 in
    let as' : arguments_at s at n ≡ ys = ap (take n) a ∙ take_at ys (block_bytes b ++ rest) n refl in
    let o = call_here s at x g n (ys ++ (block_bytes b ++ rest)) h' (omega (arith, length-append ys (block_bytes b ++ rest))) in
    block_behind s at (at + 4 + n) _ _ (call x g ys) b (from s at _ o ∙ ap (λ (l : List ℕ). before (call x g l) (block s (at + 4 + n))) as')
    (reads_block b s f (at + 4 + n) rest (behind s (at + 4) ys (block_bytes b ++ rest) a)) (omega (arith, length-append ys (block_bytes b)))
reads_block (goto l) s f at rest h = from s at _ (goto_here s at l rest h)
reads_block (return x) s f at rest h = from s at _ (return_here s at x rest h)
reads_block (branch y z l m) s f at rest h = from s at _ (branch_here s at y z l m rest h)
reads_block (raise none) s f at rest h = from s at _ (raise_here s at rest h)
reads_block (raise (some x)) s f at rest h = from s at _ (raise_value_here s at x rest f h)

module _ (v : ℕ) where
  block_reads : (b : Block) → ValuesFit v b → Reads v block b (block_bytes b)
  block_reads b f = record { reads = λ s at rest e h. reads_block b s (subst (λ (w : ℕ). ValuesFit w b) (sym e) f) at rest h }

  labelled_reads : (B : Labelled) → LabelledFits v B → Reads v labelled B (labelled_bytes v B)
  unfolding labelled
  labelled_reads B f =
      reads_bind byte (λ h s m. and_then (receiver s m) (λ r j. and_then (block s j) (λ b k. read (record { handler = h; receiver = r; block = b }) k))) (reads_byte B.handler)
      (reads_bind receiver (λ r s j. and_then (block s j) (λ b k. read (record { handler = B.handler; receiver = r; block = b }) k)) (reads_receiver v B.receiver f.0)
      (reads_map block (λ b s m. read (record { handler = B.handler; receiver = B.receiver; block = b }) m) (block_reads B.block f.1) (λ s m e. refl)))

  heading_reads : (p l n : ℕ) → p ≤ 8 → l ≤ 24 → n ≤ 63 → Reads v heading (record { params = p; locals = l; blocks = n }) (p ∷ l ∷ n ∷ [])
  unfolding heading
  heading_reads p l n a b c =
      reads_bind (count 0 8) (λ p s m. and_then (count 0 24 s m) (λ l m₂. and_then (count 0 63 s m₂) (λ n m₃. read (record { params = p; locals = l; blocks = n }) m₃))) (reads_count 0 8 p (omega arith) a)
      (reads_bind (count 0 24) (λ l s m. and_then (count 0 63 s m) (λ n m₃. read (record { params = p; locals = l; blocks = n }) m₃)) (reads_count 0 24 l (omega arith) b)
      (reads_map (count 0 63) (λ n s m. read (record { params = p; locals = l; blocks = n }) m) (reads_count 0 63 n (omega arith) c) (λ s m e. refl)))

  function_reads : (F : Function) → FunctionInRange v F → Reads v function F (function_bytes F)
  unfolding function
  function_reads F r =
      rw r.version_is
      (reads_bind heading (λ h s m. and_then (block s m) (λ b k. and_then (many h.blocks labelled s k) (λ bs j. read (record { version = version_of s; params = h.params; locals = h.locals; entry = b; blocks = bs }) j)))
      (heading_reads F.params F.locals (length F.blocks) r.params r.locals r.blocks)
      (reads_bind block (λ b s k. and_then (many (length F.blocks) labelled s k) (λ bs j. read (record { version = version_of s; params = F.params; locals = F.locals; entry = b; blocks = bs }) j))
      (block_reads F.entry r.entry_values)
      (reads_map (many (length F.blocks) labelled) (λ bs s j. read (record { version = version_of s; params = F.params; locals = F.locals; entry = F.entry; blocks = bs }) j)
      (reads_many labelled (labelled_bytes v) F.blocks (λ i d h. labelled_reads (get_or F.blocks i d) (all_get_d (LabelledFits v) F.blocks i d r.block_values h)))
      (λ s m e. ap (λ (w : ℕ). read (record { version = w; params = F.params; locals = F.locals; entry = F.entry; blocks = F.blocks }) m) e))))

pub reads_program : (P : Program) → InRange P → length (writing P) ≤ file_limit → program (writing P) 0 ≡ read P (length (writing P))
unfolding program functions writing
reads_program P r fits =
    let v = program_version P in
    let s : List ℕ = 83 ∷ 80 ∷ 70 ∷ v ∷ 0 ∷ length P ∷ joined function_bytes P in
    let a = reads_head spf file_limit s (length P ∷ joined function_bytes P) refl r.version fits in
    let c = (reads_count {v = v} 1 32 (length P) r.some r.most).reads s 5 (joined function_bytes P) refl refl in
    let d = (reads_many {v = v} function function_bytes P (λ i e h. function_reads v (get_or P i e) (all_get_d (FunctionInRange v) P i e r.functions h))).reads s 6 [] refl (sym (append-nil (joined function_bytes P))) in
    let n : 6 + length (joined function_bytes P) ≡ length s = omega arith in
    rw (a, c, d, n, reads_ended s (length s) (omega arith))
