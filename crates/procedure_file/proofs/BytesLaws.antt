-- The writing of a well-formed program within the ranges is a list of bytes.
use Rattle.std.specs.Prelude.{ℕ, ◌≤◌, ◌<◌, Bool, true, false, cond, [], ◌∷◌, eqb, length}
use Rattle.std.proofs.Common.{sym, subst, arith}
use Rattle.std.proofs.Math.Option.{Option, none, some}
use Rattle.semantics.specs.Program.{Variable, Block, constant, copy, difference, call, goto, return, branch, raise, Labelled, Function, Program, variables, function_of, no_function, program_version}
use Rattle.semantics.specs.WellFormed.{All, MayName, WellFormedBlock, WellFormedLabelled, WellFormedFunction}
use Rattle.semantics.proofs.ListLaws.{all_get_d}
use Rattle.parsing.specs.Parser.{joined}
use Rattle.parsing.specs.Bytes.{Bytes}
use Rattle.parsing.specs.RowLaws.{Row, none, more, row_bytes, append, row_list, row_joined, value_row}
use Rattle.procedure_names.specs.Writing.{block_bytes, receiver_byte, receiver_bytes, labelled_bytes, function_bytes, writing, ValuesFit, LabelledFits, FunctionInRange, InRange}
use Rattle.procedure_file.specs.Accepted.{HasFile}

module _ (P : Program) (r : InRange P) where
  params_bound_lem : (g : ℕ) → g < length P → (function_of P g).params ≤ 8
  params_bound_lem g h = (all_get_d (FunctionInRange (program_version P)) P g no_function r.functions h).params

  module _ (version v n : ℕ) (counter_bound : v ≤ 32) (labels : n ≤ 63) where
    block_row : (b : Block) → WellFormedBlock P v n b → ValuesFit version b → Row (block_bytes b)
    block_row (constant x i b) w f =
        more 1 (omega arith) (more x (omega (arith, w.0)) (append (value_row i f.0) (block_row b w.1 f.1)))
    block_row (copy x y b) w f =
        more 2 (omega arith) (more x (omega (arith, w.0)) (more y (omega (arith, w.1)) (block_row b w.2 f)))
    block_row (difference x y z b) w f =
        more 3 (omega arith)
        (more x (omega (arith, w.0)) (more y (omega (arith, w.1)) (more z (omega (arith, w.2)) (block_row b w.3 f))))
    block_row (call x g ys b) w f =
        more 4 (omega arith)
        (more x (omega (arith, w.0))
        (more g (omega (arith, w.1, r.most))
        (more (length ys) (omega (arith, w.2, params_bound_lem g w.1))
        (append (row_list (All (λ z. z < v)) (λ z zs h. (omega (arith, h.0), h.1)) ys w.3) (block_row b w.4 f)))))
    block_row (goto l) w f = more 5 (omega arith) (more l (omega (arith, w.1)) none)
    block_row (return x) w f = more 6 (omega arith) (more x (omega (arith, w)) none)
    block_row (branch y z l m) w f =
        more 7 (omega arith)
        (more y (omega (arith, w.0)) (more z (omega (arith, w.1)) (more l (omega (arith, w.2.1)) (more m (omega (arith, w.3.1)) none))))
    block_row (raise none) w f = more 8 (omega arith) none
    block_row (raise (some x)) w f = more 9 (omega arith) (more x (omega (arith, w)) none)

    receiver_row : (r : Option Variable) → MayName v r → Row (receiver_bytes version r)
    receiver_row r w = by (eqb version 2)
      where
        byte : (q : Option Variable) → MayName v q → receiver_byte q < 256
        byte none h = omega arith
        byte (some x) h = omega (arith, h)

        by : (t : Bool) → Row (cond t (receiver_byte r ∷ []) [])
        by true = more (receiver_byte r) (byte r w) none
        by false = none

    labelled_row : (B : Labelled) → WellFormedLabelled P v n B → LabelledFits version B → Row (labelled_bytes version B)
    labelled_row B w f = more B.handler (omega (arith, w.handler)) (append (receiver_row B.receiver w.receiver) (block_row B.block w.block f.1))

  function_row : (version : ℕ) (F : Function) → WellFormedFunction P F → FunctionInRange version F → Row (function_bytes F)
  function_row version F w f =
      let v = variables F in
      let n = length F.blocks in
      let counter_bound : v ≤ 32 = omega (arith, f.params, f.locals) in
      more F.params (omega (arith, f.params))
      (more F.locals (omega (arith, f.locals))
      (more n (omega (arith, f.blocks))
      (append (block_row version v n counter_bound f.blocks F.entry w.entry f.entry_values)
      (subst (λ (w : ℕ). Row (joined (labelled_bytes w) F.blocks)) (sym f.version_is)
      (row_joined (labelled_bytes version) (λ Bs. All (WellFormedLabelled P v n) Bs × All (LabelledFits version) Bs)
      (λ B Bs h. (labelled_row version v n counter_bound f.blocks B h.0.0 h.1.0, (h.0.1, h.1.1))) F.blocks (w.blocks, f.block_values))))))

written_row : (P : Program) → HasFile P → Row (writing P)
unfolding writing
written_row P h =
    let r = h.in_range in
    more 83 (omega arith) (more 80 (omega arith) (more 70 (omega arith) (more (program_version P) (omega (arith, r.version.1)) (more 0 (omega arith)
    (more (length P) (omega (arith, r.most))
    (row_joined function_bytes (λ Fs. All (WellFormedFunction P) Fs × All (FunctionInRange (program_version P)) Fs)
    (λ F Fs g. (function_row P r (program_version P) F g.0.0 g.1.0, (g.0.1, g.1.1))) P (h.well_formed, r.functions)))))))

pub writing_bytes : (P : Program) → HasFile P → Bytes (writing P)
writing_bytes P h = row_bytes (written_row P h)
