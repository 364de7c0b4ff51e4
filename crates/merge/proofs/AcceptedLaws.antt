-- The file that the merge writes is accepted.
use Rattle.std.specs.Prelude.{ℕ, ◌≡◌, List, map, length}
use Rattle.std.proofs.Common.{arith, sym, ◌∙◌, subst}
use Rattle.std.proofs.Math.Option.{none, some}
use Rattle.std.proofs.lemmas.List.{length-map}
use Rattle.parsing.specs.Fields.{IsVersion}
use Rattle.parsing.specs.VerdictLaws.{or_accepted}
use Rattle.semantics.specs.Program.{Block, constant, copy, difference, call, goto, return, branch, raise, Function, program_version}
use Rattle.semantics.specs.WellFormed.{All}
use Rattle.semantics.proofs.ListLaws.{all_append, all_mapped}
use Rattle.semantics.specs.Merge.{renumbered_block, renumbered_labelled, renumbered_function, merged}
use Rattle.semantics.proofs.MergeLaws.{merged_length, merged_runs_alike}
use Rattle.procedure_names.specs.Writing.{ValuesFit, LabelledFits, FunctionInRange}
use Rattle.procedure_file.specs.Check.{check_of, program_of}
use Rattle.procedure_file.specs.Accepted.{HasFile}
use Rattle.procedure_file.proofs.AcceptedLaws.{is_writing_lem, acceptance}
use Rattle.procedure_file.proofs.FileInvariantLaws.{invariant}
use Rattle.merge.specs.Merged.{merged_of, files_verdict, merge_verdict, MergesAccepted}
use Rattle.merge.proofs.FileLaws.{merged_version, Fitting, fitting}

-- Renumbered, values and counts are in their ranges as before.
module _ (n version : ℕ) where
  values_fit : (b : Block) → ValuesFit version b → ValuesFit version (renumbered_block n b)
  values_fit (constant x i b) f = (f.0, values_fit b f.1)
  values_fit (copy x y b) f = values_fit b f
  values_fit (difference x y z b) f = values_fit b f
  values_fit (call x g ys b) f = values_fit b f
  values_fit (goto l) f = tt
  values_fit (return x) f = tt
  values_fit (branch y z l m) f = tt
  values_fit (raise none) f = tt
  values_fit (raise (some x)) f = f

  function_fits : (F : Function) → FunctionInRange version F → FunctionInRange version (renumbered_function n F)
  function_fits F r =
      record {
        version_is = r.version_is;
        params = r.params;
        locals = r.locals;
        blocks = omega (arith, r.blocks, length-map F.blocks (renumbered_labelled n));
        entry_values = values_fit F.entry r.entry_values;
        block_values = all_mapped (LabelledFits version) (LabelledFits version) (renumbered_labelled n) F.blocks (λ B f. (f.0, values_fit B.block f.1)) r.block_values;
      }

has_file : (s t : List ℕ) {room : ℕ} → HasFile (program_of s) → HasFile (program_of t) → program_version (program_of s) ≡ program_version (program_of t) → Fitting s t room
    → HasFile (merged (program_of s) (program_of t))
unfolding merged merged_of
has_file s t p q e f =
    let P = program_of s in
    let Q = program_of t in
    let w = program_version (merged P Q) in
    let v : program_version P ≡ w = sym (merged_version P Q p.in_range.some) in
    record {
      in_range =
          record {
            version = subst IsVersion v p.in_range.version;
            some = omega (arith, p.in_range.some, merged_length P Q);
            most = f.function_bound;
            functions =
                all_append (FunctionInRange w) P (map (renumbered_function (length P)) Q) (subst (λ (k : ℕ). All (FunctionInRange k) P) v p.in_range.functions)
                (all_mapped (FunctionInRange w) (FunctionInRange w) (renumbered_function (length P)) Q (function_fits (length P) w)
                (subst (λ (k : ℕ). All (FunctionInRange k) Q) (sym e ∙ v) q.in_range.functions));
          };
      well_formed = merged_runs_alike.well_formed P Q p.well_formed q.well_formed;
      fits = f.byte_bound;
    }

pub merges_accepted : MergesAccepted
unfolding merge_verdict merged_of
merges_accepted s t bs bt room e =
    let a = or_accepted (check_of s) _ e in
    let b = or_accepted (check_of t) (files_verdict s t room) a.1 in
    let f = fitting s t room b.1 in
    let S = (is_writing_lem s bs a.0).0 in
    let T = (is_writing_lem t bt b.0).0 in
    let vs = (invariant s bs a.0).version 0 S.in_range.some in
    let vt = (invariant t bt b.0).version 0 T.in_range.some in
    let H = has_file s t S T (vs ∙ (f.same_version ∙ sym vt)) f in
    let R = merged (program_of s) (program_of t) in
    record { bytes = acceptance.is_bytes R H; is_accepted = (acceptance.is_accepted R H).0; program = (acceptance.is_accepted R H).1 }
