-- The reading of a translated file (document 01, 'The translated file'): which code its bytes are, or the first refusal. A first reading
-- finds the refusals 1 to 6, 12 and 15; a second one judges names too, and finds 9, 10, 11, 13 and 19 to 21.
use Rattle.std.specs.Prelude.{ℕ, Bool, cond, List, [], ◌∷◌, leb}
use Rattle.semantics.specs.Code.{Target, Code}
use Rattle.parsing.specs.declared.reason.Reason.TheVariants.{OutOfRange}
use Rattle.parsing.specs.Parser.{refusal, read, refuse, Parser, give, and_then, ◌>>=◌, many}
use Rattle.parsing.specs.Fields.{version_of, head, count, ended}
use Rattle.target_tags.specs.Tag.{file_limit, max_parameters}
use Rattle.target_slots.specs.Slots.{entry_kinds}
use Rattle.target_parts.specs.Parts.{pair, sized}
use Rattle.target_expressions.specs.Expressions.{expression}

-- The bytes `SPC`.
abbrev pub spc : List ℕ
spc = 83 ∷ 80 ∷ 67 ∷ []

-- "function count (16 bits, 1 to 2,048)"
abbrev pub max_functions : ℕ
max_functions = 2048

-- "Each function: parameter count (0 to 32), body length (16 bits), body." It has the version of its file.
unfoldable pub function : Bool → List ℕ → Parser Target
function names ps = do
  p ← count 0 max_parameters
  e ← sized (expression names ps 0 (entry_kinds p))
  λ s next. read (record { version = version_of s; params = p; body = e }) next

-- "function count (16 bits, 1 to 2,048)"
unfoldable pub functions : Parser ℕ
functions s at =
    and_then (pair s at)
    (λ n m. cond (leb 1 n) (cond (leb n max_functions) (read n m) (refuse (refusal OutOfRange at))) (refuse (refusal OutOfRange at)))

-- Behind the head: "function count", the functions, and no bytes left over.
unfoldable pub targets : Bool → List ℕ → Parser Code
targets names ps = do
  n ← functions
  Q ← many n (function names ps)
  _ ← ended
  give Q

-- "Mark `SPC`, version (16 bits, 1)", or 2 (document 02, Slip 7), and the functions.
unfoldable pub code : Bool → List ℕ → Parser Code
code names ps = do
  _ ← head spc file_limit
  targets names ps
