-- The table of a file whose layout is whole.
use Rattle.std.specs.Prelude.{ℕ, ◌+◌, ◌-◌, ◌≤◌, ◌≡◌, false, List, [], ◌∷◌, ◌++◌, length, take, replicate}
use Rattle.semantics.specs.Code.{Code}
use Rattle.parsing.specs.Parser.{read, Verdict, accepted, refused}
use Rattle.target_tags.specs.Tag.{file_limit}
use Rattle.target_layout.specs.Layout.{max_functions, code}
use Rattle.target_file.specs.Writing.{size}
use Rattle.target_file.specs.Check.{arities, code_of}

-- None of 1 to 6 and 12 applies, and the limit is kept.
pub record LaidOut (s : List ℕ) : Type 0 where
  pub file_bound : length s ≤ file_limit
  pub past : ℕ
  pub reads : code false [] s 0 ≡ read (code_of s) past

-- Where the bodies of functions stand, the first function at an offset.
abbrev pub starts_from : ℕ → Code → List ℕ
starts_from at [] = []
starts_from at (D ∷ Q) = (at + 3) ∷ starts_from (at + 3 + size D.body) Q

-- The table of function bodies: entry g is where the body of function g stands, 0 where there is no function g.
unfoldable pub table_of : List ℕ → List ℕ
table_of s = starts_from 7 (code_of s) ++ replicate (max_functions - length (code_of s)) 0

-- The table after a file was loaded: a refused file leaves what it held.
abbrev pub table_by : Verdict → List ℕ → List ℕ → List ℕ
table_by accepted s held = table_of s
table_by (refused reason place) s held = held

-- What the walk over the functions gives: the table, and their numbers of parameters.
pub record Tabled (s starts params : List ℕ) : Type 0 where
  pub bodies : starts ≡ table_of s
  pub counts_length : length params ≡ max_functions
  pub counts : take (length (code_of s)) params ≡ arities (code_of s)
