-- What stands at the places of a file that was read.
use Rattle.std.specs.Prelude.{ℕ, zero, suc, ◌+◌, ◌≤◌, ◌<◌, ◌≡◌, ◌≢◌, Bool, true, cond, List, [], ◌∷◌, ◌++◌, eqb, get_or, take, drop}
use Rattle.std.proofs.Math.Path.{sym, subst}
use Rattle.std.proofs.Common.{ap, ◌∙◌, arith, eq-eqb, take_all}
use Rattle.std.proofs.Math.Option.{none}
use Rattle.std.proofs.Math.ListN.{length}
use Rattle.parsing.specs.Parser.{read, joined}
use Rattle.parsing.specs.Fields.{version_of, value_at}
use Rattle.parsing.specs.ParserLaws.{ReadMany}
use Rattle.parsing.specs.BytesAtLaws.{BytesAt, bytes_at_many, many_at}
use Rattle.parsing.specs.ReadsLaws.{first_here}
use Rattle.semantics.specs.Program.{Block, constant, copy, difference, call, Labelled, Function, Program, no_function, function_of}
use Rattle.procedure_operations.specs.declared.operation.Operation.{Operation}
use Rattle.procedure_operations.specs.Operation.{operation_at}
use Rattle.procedure_layout.specs.Layout.{block_from, before, arguments_at, block, as_receiver, bytes_before, labelled, function}
use Rattle.procedure_names.specs.Writing.{receiver_byte, labelled_bytes, function_bytes}
use Rattle.procedure_names.specs.ReceiverLaws.{receiver_forth, receiver_one}
use Rattle.procedure_layout.specs.Rest.{rest_from, rest_at}
use Rattle.parsing.specs.Bytes.{Bytes}
use Rattle.procedure_file.specs.Places.{function_place, label_place, start_of, no_labelled, block_of, handler_of, receiver_of}
use Rattle.procedure_operations.specs.OperationLaws.{op_constant, op_copy, op_difference, op_call, op_goto, op_return, op_branch, op_raise, op_raise_value}
use Rattle.procedure_layout.proofs.WalkLaws.{block_law, rest_law}
use Rattle.procedure_layout.proofs.BlockLaws.{ReadBlock, read_constant, read_copy, read_difference, read_call, read_goto, read_return, read_branch, read_raise, read_raise_value}
use Rattle.procedure_file.specs.WrittenLaws.{bytes_at_block, bytes_at_labelled, bytes_at_function, ReadLabelled, read_labelled, ReadFunction, read_function, ReadProgram}

module _ (s : List ℕ) where
  from : (at : ℕ) (o : Operation) → operation_at s at ≡ o → block s at ≡ block_from s at o (block s)
  from at o e = block_law s at ∙ ap (λ x. block_from s at x (block s)) e

  -- A block that was read is read.
  pub block_is : {at next : ℕ} {b : Block} → ReadBlock s at b next → block s at ≡ read b next
  block_is (read_constant {at} e h r) = from at _ (op_constant s at e h) ∙ ap (before _) (block_is r)
  block_is (read_copy {at} e h r) = from at _ (op_copy s at e h) ∙ ap (before _) (block_is r)
  block_is (read_difference {at} e h r) = from at _ (op_difference s at e h) ∙ ap (before _) (block_is r)
  block_is (read_call {at} e h r) = from at _ (op_call s at e h) ∙ ap (before _) (block_is r)
  block_is (read_goto {at} e h) = from at _ (op_goto s at e h)
  block_is (read_return {at} e h) = from at _ (op_return s at e h)
  block_is (read_branch {at} e h) = from at _ (op_branch s at e h)
  block_is (read_raise {at} e h) = from at _ (op_raise s at e h)
  block_is (read_raise_value {at} e h v) = from at _ (op_raise_value s at e h v)

  rest_from_lem : (at : ℕ) (o : Operation) → operation_at s at ≡ o → rest_at s at ≡ rest_from s at o (rest_at s)
  rest_from_lem at o e = rest_law s at ∙ ap (λ x. rest_from s at x (rest_at s)) e

  -- The rest of a block that was read is that block.
  pub rest_is : {at next : ℕ} {b : Block} → ReadBlock s at b next → rest_at s at ≡ b
  rest_is (read_constant {at} e h r) = rest_from_lem at _ (op_constant s at e h) ∙ ap (constant (get_or s (at + 1) 0) (value_at s (at + 2))) (rest_is r)
  rest_is (read_copy {at} e h r) = rest_from_lem at _ (op_copy s at e h) ∙ ap (copy (get_or s (at + 1) 0) (get_or s (at + 2) 0)) (rest_is r)
  rest_is (read_difference {at} e h r) =
      rest_from_lem at _ (op_difference s at e h) ∙ ap (difference (get_or s (at + 1) 0) (get_or s (at + 2) 0) (get_or s (at + 3) 0)) (rest_is r)
  rest_is (read_call {at} e h r) =
      rest_from_lem at _ (op_call s at e h) ∙ ap (call (get_or s (at + 1) 0) (get_or s (at + 2) 0) (arguments_at s at (get_or s (at + 3) 0))) (rest_is r)
  rest_is (read_goto {at} e h) = rest_from_lem at _ (op_goto s at e h)
  rest_is (read_return {at} e h) = rest_from_lem at _ (op_return s at e h)
  rest_is (read_branch {at} e h) = rest_from_lem at _ (op_branch s at e h)
  rest_is (read_raise {at} e h) = rest_from_lem at _ (op_raise s at e h)
  rest_is (read_raise_value {at} e h v) = rest_from_lem at _ (op_raise_value s at e h v)

  -- A block ends behind its beginning, inside the file.
  pub block_inside : {at next : ℕ} {b : Block} → ReadBlock s at b next → (at < next) × (next ≤ length s)
  block_inside (read_constant e h r) = let i = block_inside r in (omega (arith, i.0), i.1)
  block_inside (read_copy e h r) = let i = block_inside r in (omega (arith, i.0), i.1)
  block_inside (read_difference e h r) = let i = block_inside r in (omega (arith, i.0), i.1)
  block_inside (read_call e h r) = let i = block_inside r in (omega (arith, i.0), i.1)
  block_inside (read_goto e h) = (omega arith, h)
  block_inside (read_return e h) = (omega arith, h)
  block_inside (read_branch e h) = (omega arith, h)
  block_inside (read_raise e h) = (omega arith, h)
  block_inside (read_raise_value e h v) = (omega arith, h)

module _ (s : List ℕ) (bytes : Bytes s) (P : Program) (reads : ReadProgram s P) where
  -- Function f stands at its place.
  pub function_at_lem : (f : ℕ) → f < length P → ReadFunction s (function_place P f) (function_of P f) (function_place P (suc f))
  unfolding function_place
  function_at_lem f h = read_function s _ _ _ (many_at function function_bytes s (bytes_at_function s bytes) no_function reads.functions f h)

  module _ (f : ℕ) (there : f < length P) where
    abbrev F : Function
    F = function_of P f

    middle_is : (function_at_lem f there).middle ≡ label_place P f 0
    unfolding label_place
    middle_is = omega (arith, (bytes_at_block s bytes (function_at_lem f there).entry).past)

    pub entry_at : ReadBlock s (function_place P f + 3) F.entry (label_place P f 0)
    entry_at = rw middle_is at (function_at_lem f there).entry

    labels : ReadMany labelled s (label_place P f 0) F.blocks (function_place P (suc f))
    labels = rw middle_is at (function_at_lem f there).labels

    -- Its version is the file's.
    pub version_is_lem : F.version ≡ version_of s
    version_is_lem = (function_at_lem f there).version_is

    place_more : (l : ℕ) → label_place P f 0 + length (joined (labelled_bytes (version_of s)) (take l F.blocks)) ≡ label_place P f l
    unfolding label_place
    place_more l = subst (λ (v : ℕ). label_place P f 0 + length (joined (labelled_bytes v) (take l F.blocks)) ≡ label_place P f l) version_is_lem (omega arith)

    -- Labelled block l + 1 stands at its place.
    pub label_at : (l : ℕ) → l < length F.blocks → ReadLabelled s (label_place P f l) (get_or F.blocks l no_labelled) (label_place P f (suc l))
    label_at l h =
        let e = many_at labelled (labelled_bytes (version_of s)) s (bytes_at_labelled s bytes) no_labelled labels l h in
        read_labelled s _ _ _ (rw (place_more l, place_more (suc l)) at e)

    -- Behind its last labelled block a function ends.
    pub function_ends : label_place P f (length F.blocks) ≡ function_place P (suc f)
    function_ends =
        let w = bytes_at_many labelled (labelled_bytes (version_of s)) s (bytes_at_labelled s bytes) labels in
        sym (place_more (length F.blocks))
        ∙ ap (λ (Bs : List Labelled). label_place P f 0 + length (joined (labelled_bytes (version_of s)) Bs)) (take_all (length F.blocks) F.blocks (omega arith))
        ∙ sym w.past

    pub label_next : (l : ℕ) → l < length F.blocks → label_place P f l + length (labelled_bytes F.version (get_or F.blocks l no_labelled)) ≡ label_place P f (suc l)
    label_next l h =
        let e = many_at labelled (labelled_bytes (version_of s)) s (bytes_at_labelled s bytes) no_labelled labels l h in
        let n = sym (bytes_at_labelled s bytes _ _ _ (rw (place_more l, place_more (suc l)) at e)).past in
        subst (λ (v : ℕ). label_place P f l + length (labelled_bytes v (get_or F.blocks l no_labelled)) ≡ label_place P f (suc l)) (sym version_is_lem) n

    pub function_next : function_place P f + length (function_bytes F) ≡ function_place P (suc f)
    unfolding function_place
    function_next = sym (bytes_at_function s bytes _ _ _ (many_at function function_bytes s (bytes_at_function s bytes) no_function reads.functions f there)).past

    -- The block with a label begins at its start.
    pub start_at : (l : ℕ) → l ≤ length F.blocks → ReadBlock s (start_of P f l) (block_of F l) (label_place P f l)
    start_at zero h = entry_at
    start_at (suc l) h =
        subst (λ (v : ℕ). ReadBlock s (label_place P f l + bytes_before v) (get_or F.blocks l no_labelled).block (label_place P f (suc l))) (sym version_is_lem) (label_at l h).block

    pub handler_at : (l : ℕ) → l < length F.blocks → get_or s (label_place P f l) 0 ≡ handler_of F (suc l)
    handler_at l h = sym (label_at l h).handler_is

    -- In version 2 its receiver stands behind its handler, in version 1 there is none.
    pub receiver_at_lem : (l : ℕ) → l < length F.blocks → version_of s ≡ 2 → get_or s (label_place P f l + 1) 0 ≡ receiver_byte (receiver_of F (suc l))
    receiver_at_lem l h v =
        let B = get_or F.blocks l no_labelled in
        let w : BytesAt s (label_place P f l + 1) (label_place P f l + bytes_before (version_of s)) (cond (eqb (version_of s) 2) (receiver_byte B.receiver ∷ []) []) = (label_at l h).receives.bytes in
        let r : drop (label_place P f l + 1) s ≡ cond true (receiver_byte B.receiver ∷ []) [] ++ drop (label_place P f l + bytes_before (version_of s)) s =
        subst (λ (t : Bool). drop (label_place P f l + 1) s ≡ cond t (receiver_byte B.receiver ∷ []) [] ++ drop (label_place P f l + bytes_before (version_of s)) s) (eq-eqb (version_of s) 2 v) w.stands in
        first_here s (label_place P f l + 1) (receiver_byte B.receiver ∷ drop (label_place P f l + bytes_before (version_of s)) s) r

    pub receiver_absent : (l : ℕ) → l < length F.blocks → version_of s ≢ 2 → receiver_of F (suc l) ≡ none
    receiver_absent l h n = receiver_one (version_of s) (get_or F.blocks l no_labelled).receiver n (label_at l h).receives.fits

    pub receiver_known : (l : ℕ) → l < length F.blocks → as_receiver (receiver_byte (receiver_of F (suc l))) ≡ receiver_of F (suc l)
    receiver_known l h = receiver_forth (version_of s) (get_or F.blocks l no_labelled).receiver (label_at l h).receives.fits
