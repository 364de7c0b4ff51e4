-- The check of a procedure file with its size judged first, the order before Slip 5 of document 02, over both versions.
use Rattle.std.specs.Prelude.{ℕ, List}
use Rattle.semantics.specs.Program.{Program}
use Rattle.parsing.specs.Parser.{Parser, ◌>>=◌, Verdict}
use Rattle.parsing.specs.SizeFirst.{head_size_first}
use Rattle.procedure_layout.specs.Layout.{spf, file_limit, functions}
use Rattle.procedure_file.specs.Check.{named}

unfoldable pub program_size_first : Parser Program
program_size_first = do
  _ ← head_size_first spf file_limit
  functions

unfoldable pub check_size_first : List ℕ → Verdict
check_size_first s = named (program_size_first s 0)
