-- Finding a block (document 01, 'What each function tells its user'): "after the file's checks, gives back the stretch of the lent file
-- that it fills, handler byte included. Looked up as label 0, the entry block is given."
use Rattle.std.specs.Prelude.{ℕ, zero, suc, ◌+◌, ◌-◌, cond, List, [], leb, ltb, length, get_or, take, drop, Err, Ok, Result}
use Rattle.parsing.specs.declared.Refusal.{Refusal}
use Rattle.parsing.specs.declared.reason.Reason.TheVariants.{MissingLabel, MissingFunction}
use Rattle.parsing.specs.Parser.{Verdict, accepted, refused, or_else, refusal}
use Rattle.semantics.specs.Program.{Function, Program, function_of}
use Rattle.procedure_lookup.specs.declared.Place.{Place}
use Rattle.procedure_names.specs.Writing.{block_bytes, labelled_bytes}
use Rattle.procedure_file.specs.Check.{check_of, program_of}
use Rattle.procedure_file.specs.Places.{function_place, label_place, no_labelled}

-- "A missing function gives 9, then a missing label 8, at 0."
abbrev pub block_there : Program → ℕ → ℕ → Verdict
block_there P f l =
    cond (ltb f (length P)) (cond (leb l (length (function_of P f).blocks)) accepted (refused MissingLabel 0)) (refused MissingFunction 0)

unfoldable pub lookup_of : List ℕ → ℕ → ℕ → Verdict
lookup_of s f l = or_else (check_of s) (block_there (program_of s) f l)

-- The writing of the block with a label, handler byte included, and in version 2 its receiver (document 02, Slip 7).
abbrev pub stretch : Function → ℕ → List ℕ
stretch F zero = block_bytes F.entry
stretch F (suc l) = labelled_bytes F.version (get_or F.blocks l no_labelled)

-- "every refusal gives an empty stretch."
abbrev pub stretch_by : Verdict → List ℕ → List ℕ
stretch_by accepted bytes = bytes
stretch_by (refused n p) bytes = []

unfoldable pub stretch_of : List ℕ → ℕ → ℕ → List ℕ
stretch_of s f l = stretch_by (lookup_of s f l) (stretch (function_of (program_of s) f) l)

-- Where that stretch begins and ends.
abbrev pub stretch_start : Program → ℕ → ℕ → ℕ
stretch_start P f zero = function_place P f + 3
stretch_start P f (suc l) = label_place P f l

abbrev pub place_by : Verdict → Program → ℕ → ℕ → Result Place Refusal
place_by accepted P f l = Ok (record { from = stretch_start P f l; to = label_place P f l })
place_by (refused n p) P f l = Err (refusal n p)

unfoldable pub place_of : List ℕ → ℕ → ℕ → Result Place Refusal
place_of s f l = place_by (lookup_of s f l) (program_of s) f l

-- The part of the file at a place.
abbrev pub part_at : List ℕ → Result Place Refusal → List ℕ
part_at s (Ok p) = take (p.to - p.from) (drop p.from s)
part_at s (Err r) = []
