-- The verdict of `both` on a file with its size judged first, the order before Slip 5 of document 02, over both versions.
use Rattle.std.specs.Prelude.{ℕ, List}
use Rattle.parsing.specs.Parser.{Verdict, or_else, past_of}
use Rattle.parsing.specs.SizeFirst.{head_size_first}
use Rattle.procedure_layout.specs.Layout.{spf}
use Rattle.procedure_file.specs.SizeFirst.{check_size_first}
use Rattle.report.specs.Report.{read_verdict}

unfoldable pub file_verdict_size_first : List ℕ → Verdict
file_verdict_size_first s = or_else (read_verdict (past_of (head_size_first spf 2048 s 0))) (check_size_first s)
