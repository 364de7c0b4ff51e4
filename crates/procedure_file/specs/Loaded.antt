-- A file and its table.
use Rattle.std.specs.Prelude.{ℕ, ◌≤◌, ◌≡◌, List, length}
use Rattle.parsing.specs.Bytes.{Bytes}
use Rattle.parsing.specs.Parser.{read, Verdict, accepted, refused}
use Rattle.procedure_layout.specs.Layout.{file_limit, program}
use Rattle.procedure_file.specs.Check.{check_of, program_of}
use Rattle.procedure_file.specs.Table.{Table}

-- A file whose layout is whole, of the length that is allowed, as a list of bytes.
pub record Laid (s : List ℕ) : Type 0 where
  pub bytes : Bytes s
  pub file_bound : length s ≤ file_limit
  pub past : ℕ
  pub layout : program s 0 ≡ read (program_of s) past

-- Such a file and its table, which suffice to read it.
pub record Tabled (s starts : List ℕ) : Type 0 where
  pub laid : Laid s
  pub table : Table (program_of s) starts

-- An accepted file and its table.
pub record Loaded (s starts : List ℕ) : Type 0 where
  pub tabled : Tabled s starts
  pub is_accepted : check_of s ≡ accepted

-- What loading leaves, by the checker's answer: the table of an accepted file, and what was there where it is refused.
abbrev pub LoadedOr : Verdict → List ℕ → List ℕ → List ℕ → Type 0
LoadedOr accepted s starts starts' = Loaded s starts'
LoadedOr (refused n p) s starts starts' = starts' ≡ starts
