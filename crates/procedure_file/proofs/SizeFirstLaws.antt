-- Slip 5 of document 02: which answers of the checker changed.
use Rattle.std.specs.Prelude.{ℕ, List}
use Rattle.std.proofs.Common.{arith}
use Rattle.parsing.specs.SizeFirst.{AnswerChange}
use Rattle.parsing.specs.SizeFirstLaws.{changed}
use Rattle.procedure_layout.specs.Layout.{spf, file_limit, program}
use Rattle.procedure_file.specs.Check.{check_of}
use Rattle.procedure_file.specs.SizeFirst.{program_size_first, check_size_first}

pub check_changed : (s : List ℕ) → AnswerChange spf file_limit s (check_size_first s) (check_of s)
unfolding check_of program check_size_first program_size_first
check_changed s = changed spf file_limit s (omega arith) (λ r e. rw e) (λ r e. rw e) (λ e. rw e)
