-- Slip 5 of document 02: which verdicts of `both` on a file changed.
use Rattle.std.specs.Prelude.{ℕ, ◌≡◌, refl, List}
use Rattle.std.proofs.Common.{sym, ◌∙◌, arith}
use Rattle.parsing.specs.Parser.{Parsed, read, refuse}
use Rattle.parsing.specs.Fields.{head}
use Rattle.parsing.specs.SizeFirst.{head_size_first, AnswerChange}
use Rattle.parsing.specs.SizeFirstLaws.{changed, changed_within}
use Rattle.parsing.specs.BytesAtLaws.{read_head}
use Rattle.procedure_layout.specs.Layout.{spf}
use Rattle.procedure_file.proofs.SizeFirstLaws.{check_changed}
use Rattle.report.specs.Report.{file_verdict}
use Rattle.report.specs.SizeFirst.{file_verdict_size_first}

pub file_changed : (s : List ℕ) → AnswerChange spf 2048 s (file_verdict_size_first s) (file_verdict s)
unfolding file_verdict file_verdict_size_first
file_changed s = changed spf 2048 s (omega arith) (λ r e. rw e) (λ r e. rw e) (λ e. same (head spf 2048 s 0) refl e)
  where
    same : (x : Parsed (Unit {0})) → head spf 2048 s 0 ≡ x → head spf 2048 s 0 ≡ head_size_first spf 2048 s 0 → file_verdict s ≡ file_verdict_size_first s
    same (read u next) q e =
        let l = (read_head s spf 2048 q).0 in
        rw (q, sym e ∙ q) (changed_within (check_changed s) (omega arith))
    same (refuse r) q e = rw (q, sym e ∙ q) refl
