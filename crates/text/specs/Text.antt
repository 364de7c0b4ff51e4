-- The lines that program `both` prints (document 01, 'The test procedure and its neighbours'), as bytes.
use Rattle.std.specs.Prelude.{ℕ, cond, List, [], ◌∷◌, ◌++◌, eqb, ℤ}
use Rattle.semantics.specs.Run.{End, value, uncaught, Stop, ended, spent, deep, broken}
use Rattle.decimal.specs.Decimal.{signed, numbered}

-- `value `
abbrev pub value_word : List ℕ
value_word = 118 ∷ 97 ∷ 108 ∷ 117 ∷ 101 ∷ 32 ∷ []

-- `uncaught`
abbrev pub uncaught_word : List ℕ
uncaught_word = 117 ∷ 110 ∷ 99 ∷ 97 ∷ 117 ∷ 103 ∷ 104 ∷ 116 ∷ []

-- `spent`
abbrev pub spent_word : List ℕ
spent_word = 115 ∷ 112 ∷ 101 ∷ 110 ∷ 116 ∷ []

-- `deep`
abbrev pub deep_word : List ℕ
deep_word = 100 ∷ 101 ∷ 101 ∷ 112 ∷ []

-- ` steps `
abbrev pub steps_word : List ℕ
steps_word = 32 ∷ 115 ∷ 116 ∷ 101 ∷ 112 ∷ 115 ∷ 32 ∷ []

-- `target `
abbrev pub target_word : List ℕ
target_word = 116 ∷ 97 ∷ 114 ∷ 103 ∷ 101 ∷ 116 ∷ 32 ∷ []

-- `bench`
abbrev pub bench_word : List ℕ
bench_word = 98 ∷ 101 ∷ 110 ∷ 99 ∷ 104 ∷ []

-- `controller`
abbrev pub controller_word : List ℕ
controller_word = 99 ∷ 111 ∷ 110 ∷ 116 ∷ 114 ∷ 111 ∷ 108 ∷ 108 ∷ 101 ∷ 114 ∷ []

-- `refused `
abbrev pub refused_word : List ℕ
refused_word = 114 ∷ 101 ∷ 102 ∷ 117 ∷ 115 ∷ 101 ∷ 100 ∷ 32 ∷ []

-- ` at `
abbrev pub at_word : List ℕ
at_word = 32 ∷ 97 ∷ 116 ∷ 32 ∷ []

-- A space.
abbrev pub space : List ℕ
space = 32 ∷ []

-- The end of a line.
abbrev pub newline : List ℕ
newline = 10 ∷ []

-- The number raised: "which `both` prints after the word for version 2" (document 02, Slip 7).
unfoldable pub raised_text : ℕ → ℤ → List ℕ
raised_text version z = cond (eqb version 2) (space ++ signed z) []

-- How a run stopped: `value` and its number, "Other ends print `uncaught`, `spent` or `deep`". A run of a checked file is never broken.
unfoldable pub end_text : ℕ → End → List ℕ
end_text version (value z) = value_word ++ signed z
end_text version (uncaught z) = uncaught_word ++ raised_text version z

unfoldable pub stop_text : ℕ → Stop (Unit {0}) → List ℕ
stop_text version (ended e) = end_text version e
stop_text version (spent u) = spent_word
stop_text version (deep u) = deep_word
stop_text version (broken u) = []

-- A machine's end and steps.
unfoldable pub machine_line : ℕ → List ℕ → Stop (Unit {0}) → ℕ → List ℕ
machine_line version name stop steps = name ++ space ++ stop_text version stop ++ numbered steps_word steps ++ newline

-- The count of the translation's bytes.
unfoldable pub target_line : ℕ → List ℕ
target_line n = numbered target_word n ++ newline

-- "it prints the translation's bytes, then each machine's end and steps", of a file of a version.
unfoldable pub both_text : ℕ → ℕ → Stop (Unit {0}) → ℕ → Stop (Unit {0}) → ℕ → List ℕ
both_text version n bstop bsteps cstop csteps =
    target_line n ++ machine_line version bench_word bstop bsteps ++ machine_line version controller_word cstop csteps

-- "A refusal prints only `refused`, number, `at`, place."
unfoldable pub refused_text : ℕ → ℕ → List ℕ
refused_text number place = numbered refused_word number ++ numbered at_word place ++ newline

-- "Input ending inside the first four fields prints `no header`."
abbrev pub no_header_text : List ℕ
no_header_text = 110 ∷ 111 ∷ 32 ∷ 104 ∷ 101 ∷ 97 ∷ 100 ∷ 101 ∷ 114 ∷ 10 ∷ []
