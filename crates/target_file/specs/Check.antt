-- The checker's answer for every list of bytes, in document 01's order as Slip 5 of document 02 has it: 1 and 2; 15; then 3 to 6 and 12
-- over the whole file in reading order; then 9, 10, 11, 13 and 19 to 21 over the whole file in reading order.
use Rattle.std.specs.Prelude.{ℕ, Bool, true, false, List, [], map}
use Rattle.semantics.specs.Code.{Code}
use Rattle.parsing.specs.Parser.{Parsed, read, refuse, Parser, Verdict, accepted, refused}
use Rattle.target_layout.specs.Layout.{targets, code}

abbrev pub verdict : {A : Type 0} → Parsed A → Verdict
verdict (read a next) = accepted
verdict (refuse r) = refused r.reason r.place

-- The functions' numbers of parameters.
abbrev pub arities : Code → List ℕ
arities Q = map (λ D. D.params) Q

-- Names are judged once the layout is whole, by a second reading.
abbrev pub named : (Bool → List ℕ → Parser Code) → List ℕ → Parsed Code → Verdict
named reading s (refuse r) = refused r.reason r.place
named reading s (read Q next) = verdict (reading true (arities Q) s 0)

-- The layout of the whole file, its head first, and then its names.
unfoldable pub check_of : List ℕ → Verdict
check_of s = named code s (code false [] s 0)

-- The code of an accepted file: what stands behind its head.
abbrev pub code_read : Parsed Code → Code
code_read (refuse r) = []
code_read (read Q next) = Q

unfoldable pub code_of : List ℕ → Code
code_of s = code_read (targets false [] s 5)
