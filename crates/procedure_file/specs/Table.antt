-- The table that machines and translator go by: where the first operation of each block stands. A block's handler and, in version 2, its
-- receiver stand before it, a function's counts before its entry block.
use Rattle.std.specs.Prelude.{ℕ, ◌+◌, ◌*◌, ◌<◌, ◌≡◌, cond, List, leb, ltb, length, get_or}
use Rattle.semantics.specs.Program.{Program, function_of}
use Rattle.procedure_layout.specs.Layout.{max_functions}
use Rattle.procedure_file.specs.Places.{start_of}

-- The block with label l of function f is at 64 f + l; label 0 is the entry block.
abbrev pub index : ℕ → ℕ → ℕ
index f l = 64 * f + l

-- Where that block starts; 0 where there is none.
unfoldable pub entry_of : Program → ℕ → ℕ → ℕ
entry_of P f l = cond (ltb f (length P)) (cond (leb l (length (function_of P f).blocks)) (start_of P f l) 0) 0

-- The table of P, 64 labels of 32 functions.
pub record Table (P : Program) (starts : List ℕ) : Type 0 where
  pub long : length starts ≡ 2048
  pub entries : (f l : ℕ) → f < max_functions → l < 64 → get_or starts (index f l) 0 ≡ entry_of P f l
