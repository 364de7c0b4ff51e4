-- What the functions behind `load` are asked, and what they give.
use Rattle.std.specs.Prelude.{ℕ, ◌+◌, ◌-◌, ◌*◌, ◌≤◌, ◌<◌, ◌≡◌, List, ◌∷◌, length, get_or, take}
use Rattle.std.proofs.Math.Option.{Option}
use Rattle.parsing.specs.Parser.{Verdict}
use Rattle.parsing.specs.Fields.{version_of}
use Rattle.semantics.specs.Program.{Variable, Program, variables, function_of}
use Rattle.procedure_layout.specs.Layout.{max_functions, bytes_before}
use Rattle.procedure_layout.specs.Rest.{rest_at}
use Rattle.procedure_names.specs.Names.{handler, receiver, block_names, function_names, arities, first_wrong}
use Rattle.procedure_file.specs.Check.{program_of}
use Rattle.procedure_file.specs.Places.{function_place}
use Rattle.procedure_file.specs.Table.{index, entry_of, Table}
use Rattle.procedure_file.specs.Loaded.{Laid}

-- The entries before i are those of the table, the others 0.
pub record FilledTo (P : Program) (i : ℕ) (starts : List ℕ) : Type 0 where
  pub long : length starts ≡ 2048
  pub done : (f l : ℕ) → f < max_functions → l < 64 → index f l < i → get_or starts (index f l) 0 ≡ entry_of P f l
  pub empty : (j : ℕ) → i ≤ j → get_or starts j 0 ≡ 0

-- The rows of the functions before f are filled; function f stands at an offset.
pub record Filled (s : List ℕ) (f at : ℕ) (starts : List ℕ) : Type 0 where
  pub laid : Laid s
  pub place : at ≡ function_place (program_of s) f
  pub entries : FilledTo (program_of s) (64 * f) starts

-- What filling gives: the number of functions, the table, and the numbers of parameters.
pub record Given (s : List ℕ) (count : ℕ) (starts params : List ℕ) : Type 0 where
  pub count_is : count ≡ length (program_of s)
  pub table : Table (program_of s) starts
  pub params_are : take count params ≡ arities (program_of s)

-- A labelled block as the function judges it.
abbrev pub labelled_verdict : List ℕ → List ℕ → ℕ → ℕ → ℕ → Option Variable → ℕ → Verdict
labelled_verdict ps s v n h r start =
    let place = start - bytes_before (version_of s) in
    first_wrong (handler n place h ∷ receiver v (place + 1) r ∷ block_names ps v n start (rest_at s start))

-- What judging the blocks of function f asks: its numbers of variables and of labels.
pub record Naming (s : List ℕ) (f v labels : ℕ) : Type 0 where
  pub there : f < length (program_of s)
  pub variables_are : v ≡ variables (function_of (program_of s) f)
  pub labels_are : labels ≡ length (function_of (program_of s) f).blocks

-- The verdict on function f.
abbrev pub function_verdict : List ℕ → List ℕ → ℕ → Verdict
function_verdict ps s f = first_wrong (function_names ps (function_place (program_of s) f) (function_of (program_of s) f))
