-- The check of a translated file with its size judged first, the order before Slip 5 of document 02, over both versions.
use Rattle.std.specs.Prelude.{ℕ, Bool, false, List, []}
use Rattle.semantics.specs.Code.{Code}
use Rattle.parsing.specs.Parser.{Parser, ◌>>=◌, Verdict}
use Rattle.parsing.specs.SizeFirst.{head_size_first}
use Rattle.target_tags.specs.Tag.{file_limit}
use Rattle.target_layout.specs.Layout.{spc, targets}
use Rattle.target_file.specs.Check.{named}

unfoldable pub code_size_first : Bool → List ℕ → Parser Code
code_size_first names ps = do
  _ ← head_size_first spc file_limit
  targets names ps

unfoldable pub check_size_first : List ℕ → Verdict
check_size_first s = named code_size_first s (code_size_first false [] s 0)
