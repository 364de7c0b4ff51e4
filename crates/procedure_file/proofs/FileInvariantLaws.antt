-- The facts of an accepted file, proved.
use Rattle.std.specs.Prelude.{ℕ, zero, suc, ◌+◌, ◌≤◌, ◌<◌, ◌≡◌, List, length, get_or, drop}
use Rattle.std.proofs.Common.{ap, ◌∙◌, subst, arith, length-drop, length-take-le}
use Rattle.std.proofs.Math.Option.{some}
use Rattle.parsing.specs.declared.Refusal.{Refusal}
use Rattle.parsing.specs.ParserLaws.{impossible}
use Rattle.parsing.specs.Parser.{accepted}
use Rattle.semantics.specs.Program.{Block, Function, Program, variables, function_of, no_function}
use Rattle.semantics.specs.Bench.{labelled_at}
use Rattle.semantics.specs.WellFormed.{IsLabel, MayName, WellFormed, WellFormedBlock, WellFormedLabelled, WellFormedFunction}
use Rattle.semantics.proofs.ListLaws.{at_get_d, all_get_d}
use Rattle.procedure_operations.specs.declared.operation.Operation.{Operation}
use Rattle.procedure_operations.specs.declared.operation.Operation.TheVariants.{Constant, Copy, Difference, Call, Goto, Return, Branch, Raise, RaiseValue, Refused}
use Rattle.procedure_layout.specs.declared.layout.After.TheVariants.{Onward}
use Rattle.procedure_operations.specs.Operation.{operation_at}
use Rattle.procedure_operations.specs.Ranges.{NumbersInRange}
use Rattle.procedure_layout.specs.Layout.{arguments_at}
use Rattle.procedure_names.specs.Writing.{block_bytes}
use Rattle.procedure_file.specs.Check.{check_of, program_of}
use Rattle.procedure_layout.specs.Rest.{rest_from, rest_at}
use Rattle.procedure_layout.specs.After.{after_of}
use Rattle.procedure_file.specs.Places.{start_of, no_labelled, block_of, handler_of, receiver_of}
use Rattle.parsing.specs.Bytes.{Bytes}
use Rattle.procedure_file.specs.FileInvariant.{OperationsAt, FileInvariant}
use Rattle.procedure_layout.proofs.WalkLaws.{rest_law}
use Rattle.procedure_layout.proofs.LayoutLaws.{onward_moves}
use Rattle.procedure_layout.proofs.BlockLaws.{ReadBlock, read_constant, read_copy, read_difference, read_call, read_goto, read_return, read_branch, read_raise, read_raise_value, read_block}
use Rattle.procedure_file.specs.WrittenLaws.{bytes_at_block, fit_block}
use Rattle.procedure_file.specs.ReadsBackLaws.{reads_block}
use Rattle.procedure_file.proofs.AcceptedLaws.{laid_reads, passed, laid_by, is_writing_lem}
use Rattle.procedure_names.specs.NamedLaws.{call_room}
use Rattle.procedure_file.specs.PlacesLaws.{rest_is, block_inside, version_is_lem, start_at}
use Rattle.procedure_operations.specs.OperationLaws.{op_constant, op_copy, op_difference, op_call, op_goto, op_return, op_branch, op_raise, op_raise_value}
use Rattle.procedure_file.proofs.TableLaws.{params_bound_lem, locals_bound_lem, blocks_bound_lem}

-- Where an operation stands, its block was read.
stands_read : (s : List ℕ) (f at : ℕ) (w : OperationsAt s f at) → ReadBlock s at (rest_at s at) (at + length (block_bytes (rest_at s at)))
stands_read s f at w = read_block s at (reads_block (rest_at s at) s w.values at (drop w.past s) w.written)

module _ (s : List ℕ) (bytes : Bytes s) where
  abbrev P : Program
  P = program_of s

  abbrev Formed : ℕ → Block → Type 0
  Formed f b = WellFormedBlock P (variables (function_of P f)) (length (function_of P f).blocks) b

  read_stands : (f at : ℕ) (b : Block) (past : ℕ) → f < length P → ReadBlock s at b past → Formed f b → OperationsAt s f at
  read_stands f at b past h r w =
      let e : rest_at s at ≡ b = rest_is s r in
      record {
        there = h;
        past = past;
        written = rw e (bytes_at_block s bytes r).stands;
        values = rw e (fit_block s bytes r);
        formed = rw e w;
      }

  -- The next operation of a block stands where the operation leads.
  by_read : (f at m : ℕ) {b : Block} {past : ℕ} → f < length P → ReadBlock s at b past → Formed f b → after_of (operation_at s at) ≡ Onward m → OperationsAt s f m
  by_read f at m h (read_constant e i r) w a =
      let q : at + 6 ≡ m = cc (op_constant s at e i) in rw (← q) (read_stands f (at + 6) _ _ h r w.1)
  by_read f at m h (read_copy e i r) w a =
      let q : at + 3 ≡ m = cc (op_copy s at e i) in rw (← q) (read_stands f (at + 3) _ _ h r w.2)
  by_read f at m h (read_difference e i r) w a =
      let q : at + 4 ≡ m = cc (op_difference s at e i) in rw (← q) (read_stands f (at + 4) _ _ h r w.3)
  by_read f at m h (read_call e i r) w a =
      let q : at + 4 + get_or s (at + 3) 0 ≡ m = cc (op_call s at e i) in rw (← q) (read_stands f (at + 4 + get_or s (at + 3) 0) _ _ h r w.4)
  by_read f at m h (read_goto e i) w a = impossible (cc (op_goto s at e i))
  by_read f at m h (read_return e i) w a = impossible (cc (op_return s at e i))
  by_read f at m h (read_branch e i) w a = impossible (cc (op_branch s at e i))
  by_read f at m h (read_raise e i) w a = impossible (cc (op_raise s at e i))
  by_read f at m h (read_raise_value e i v) w a = impossible (cc (op_raise_value s at e i v))

-- An operation that stands is none that is refused.
not_refused : (s : List ℕ) (at : ℕ) (r : Refusal) {b : Block} {past : ℕ} → ReadBlock s at b past → operation_at s at ≡ Refused r → ⊥
not_refused s at r (read_constant e i q) w = impossible (cc (op_constant s at e i))
not_refused s at r (read_copy e i q) w = impossible (cc (op_copy s at e i))
not_refused s at r (read_difference e i q) w = impossible (cc (op_difference s at e i))
not_refused s at r (read_call e i q) w = impossible (cc (op_call s at e i))
not_refused s at r (read_goto e i) w = impossible (cc (op_goto s at e i))
not_refused s at r (read_return e i) w = impossible (cc (op_return s at e i))
not_refused s at r (read_branch e i) w = impossible (cc (op_branch s at e i))
not_refused s at r (read_raise e i) w = impossible (cc (op_raise s at e i))
not_refused s at r (read_raise_value e i v) w = impossible (cc (op_raise_value s at e i v))

-- The numbers of a well-formed operation, in a function of at most 32 variables.
module _ (P : Program) (v n : ℕ) (small : v ≤ 32) (most : length P ≤ 32) (s : List ℕ) (at : ℕ) where
  numbers_of : (o : Operation) → operation_at s at ≡ o → WellFormedBlock P v n (rest_from s at o (rest_at s)) → NumbersInRange s at o
  numbers_of (Constant x i m) e w = omega (arith, w.0)
  numbers_of (Copy x y m) e w = (omega (arith, w.0), omega (arith, w.1))
  numbers_of (Difference x y z m) e w = (omega (arith, w.0), omega (arith, w.1), omega (arith, w.2))
  numbers_of (Call x g k m) e w = (
    omega (arith, w.0),
    omega (arith, w.1),
    λ i h.
        let l = length-drop (at + 4) s in
        let c = length-take-le k (drop (at + 4) s) (omega (arith, call_room s at x g k m e)) in
        let y = all_get_d (λ (y : ℕ). y < v) (arguments_at s at k) i 0 w.3 (omega (arith, c)) in
        omega (arith, y),
  )
  numbers_of (Goto l m) e w = tt
  numbers_of (Return x m) e w = omega (arith, w)
  numbers_of (Branch y z l k m) e w = (omega (arith, w.0), omega (arith, w.1))
  numbers_of (Raise m) e w = tt
  numbers_of (RaiseValue x m) e w = omega (arith, w)
  numbers_of (Refused r) e w = tt

labelled_is : (F : Function) (l : ℕ) → IsLabel (length F.blocks) l → labelled_at F.blocks l ≡ some (record { handler = handler_of F l; receiver = receiver_of F l; block = block_of F l })
labelled_is F zero h = absurd (omega (arith, h.0))
labelled_is F (suc l) h = at_get_d F.blocks l no_labelled (omega (arith, h.1))

formed_at : (P : Program) → WellFormed P → (f l : ℕ) → f < length P → l ≤ length (function_of P f).blocks
    → WellFormedBlock P (variables (function_of P f)) (length (function_of P f).blocks) (block_of (function_of P f) l)
formed_at P w f zero h k = (all_get_d (WellFormedFunction P) P f no_function w h).entry
formed_at P w f (suc l) h k =
    let F = function_of P f in
    (all_get_d (WellFormedLabelled P (variables F) (length F.blocks)) F.blocks l no_labelled (all_get_d (WellFormedFunction P) P f no_function w h).blocks (omega arith)).block

receiver_formed : (P : Program) → WellFormed P → (f l : ℕ) → f < length P → l ≤ length (function_of P f).blocks → MayName (variables (function_of P f)) (receiver_of (function_of P f) l)
receiver_formed P w f zero h k = tt
receiver_formed P w f (suc l) h k =
    let F = function_of P f in
    (all_get_d (WellFormedLabelled P (variables F) (length F.blocks)) F.blocks l no_labelled (all_get_d (WellFormedFunction P) P f no_function w h).blocks (omega arith)).receiver

pub invariant : (s : List ℕ) → Bytes s → check_of s ≡ accepted → FileInvariant s
invariant s bytes e =
    let a = passed s e in
    let L = (laid_by s bytes a.what a.next a.reads a.file_bound).0 in
    let t = is_writing_lem s bytes e in
    let P = program_of s in
    record {
      written = t.1;
      well_formed = t.0.well_formed;
      known = (laid_reads L).known;
      version = λ f h. version_is_lem s bytes P (laid_reads L) f h;
      most = (laid_reads L).most;
      counts = λ f h. record { params = params_bound_lem s L f h; locals = locals_bound_lem s L f h; blocks = blocks_bound_lem s L f h };
      file_bound = L.file_bound;
      function = λ f h. at_get_d P f no_function h;
      start = λ f l h k. read_stands s bytes f (start_of P f l) _ _ h (start_at s bytes P (laid_reads L) f h l k) (formed_at P t.0.well_formed f l h k);
      block = λ f l h k. rest_is s (start_at s bytes P (laid_reads L) f h l k);
      labelled = λ f l h. labelled_is (function_of P f) l h;
      receiver = λ f l h k. receiver_formed P t.0.well_formed f l h k;
      inside = λ f m w. let i = block_inside s (stands_read s f m w) in omega (arith, i.0, i.1);
      operation = λ f m r w x. not_refused s m r (stands_read s f m w) x;
      numbers = λ f m o w x.
          let h = w.there in
          let v : variables (function_of P f) ≤ 32 = omega (arith, params_bound_lem s L f h, locals_bound_lem s L f h) in
          numbers_of P (variables (function_of P f)) (length (function_of P f).blocks) v (laid_reads L).most s m o x
          (subst (WellFormedBlock P (variables (function_of P f)) (length (function_of P f).blocks)) (rest_law s m ∙ ap (λ (q : Operation). rest_from s m q (rest_at s)) x) w.formed);
      next = λ f m n w x. by_read s bytes f m n w.there (stands_read s f m w) w.formed x;
      forward = λ f m n w x. onward_moves s m n x;
      rest = rest_law s;
      called = λ m x g n k c. let l = length-drop (m + 4) s in length-take-le n (drop (m + 4) s) (omega (arith, call_room s m x g n k c));
    }
