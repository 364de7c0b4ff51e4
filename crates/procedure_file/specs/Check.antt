-- The checker's answer for every list of bytes, in document 01's order as Slip 5 of document 02 has it: 1 and 2; 15; then 3 to 6 over the
-- whole file in reading order; then 7 to 10 over the whole file in reading order.
use Rattle.std.specs.Prelude.{ℕ, List, []}
use Rattle.semantics.specs.Program.{Program}
use Rattle.parsing.specs.Parser.{Parsed, read, refuse, Verdict, refused}
use Rattle.procedure_layout.specs.Layout.{program}
use Rattle.procedure_names.specs.Names.{names_of, first_wrong}

-- Names are judged once the layout is whole.
abbrev pub named : Parsed Program → Verdict
named (refuse r) = refused r.reason r.place
named (read P next) = first_wrong (names_of P)

-- The layout of the whole file, its head first, and then its names.
unfoldable pub check_of : List ℕ → Verdict
check_of s = named (program s 0)

-- The program of an accepted file.
abbrev pub program_read : Parsed Program → Program
program_read (refuse r) = []
program_read (read P next) = P

unfoldable pub program_of : List ℕ → Program
program_of s = program_read (program s 0)
