-- The texts, computed: the example of document 01 ('exactly'), and the ends of the ranges of numbers.
use Rattle.std.specs.Prelude.{ℕ, ◌≡◌, refl, List, [], ◌∷◌, ◌++◌, pos, negsuc}
use Rattle.semantics.specs.Run.{value, uncaught, ended, spent, deep}
use Rattle.decimal.specs.Decimal.{digits, decimal, signed, numbered}
use Rattle.text.specs.Text.{raised_text, end_text, stop_text, machine_line, target_line, both_text, refused_text, bench_word}

-- `target 106`, `bench value 7 steps 6`, `controller value 7 steps 11`
abbrev target_is : List ℕ
target_is = 116 ∷ 97 ∷ 114 ∷ 103 ∷ 101 ∷ 116 ∷ 32 ∷ 49 ∷ 48 ∷ 54 ∷ 10 ∷ []

abbrev bench_is : List ℕ
bench_is = 98 ∷ 101 ∷ 110 ∷ 99 ∷ 104 ∷ 32 ∷ 118 ∷ 97 ∷ 108 ∷ 117 ∷ 101 ∷ 32 ∷ 55 ∷ 32 ∷ 115 ∷ 116 ∷ 101 ∷ 112 ∷ 115 ∷ 32 ∷ 54 ∷ 10 ∷ []

abbrev controller_is : List ℕ
controller_is = 99 ∷ 111 ∷ 110 ∷ 116 ∷ 114 ∷ 111 ∷ 108 ∷ 108 ∷ 101 ∷ 114 ∷ 32 ∷ 118 ∷ 97 ∷ 108 ∷ 117 ∷ 101 ∷ 32 ∷ 55 ∷ 32 ∷ 115 ∷ 116 ∷ 101 ∷ 112 ∷ 115 ∷ 32 ∷ 49 ∷ 49 ∷ 10 ∷ []

-- T with argument 0.
pub t_argument_0 : both_text 1 106 (ended (value (pos 7))) 6 (ended (value (pos 7))) 11 ≡ target_is ++ bench_is ++ controller_is
unfolding digits decimal signed numbered end_text stop_text machine_line target_line both_text
t_argument_0 = refl

-- `bench uncaught steps 1`
pub line_uncaught : machine_line 1 bench_word (ended (uncaught (pos 0))) 1 ≡ 98 ∷ 101 ∷ 110 ∷ 99 ∷ 104 ∷ 32 ∷ 117 ∷ 110 ∷ 99 ∷ 97 ∷ 117 ∷ 103 ∷ 104 ∷ 116 ∷ 32 ∷ 115 ∷ 116 ∷ 101 ∷ 112 ∷ 115 ∷ 32 ∷ 49 ∷ 10 ∷ []
unfolding digits decimal numbered raised_text end_text stop_text machine_line
line_uncaught = refl

-- `bench uncaught -5 steps 3`, for version 2
pub line_number : machine_line 2 bench_word (ended (uncaught (negsuc 4))) 3
    ≡ 98 ∷ 101 ∷ 110 ∷ 99 ∷ 104 ∷ 32 ∷ 117 ∷ 110 ∷ 99 ∷ 97 ∷ 117 ∷ 103 ∷ 104 ∷ 116 ∷ 32 ∷ 45 ∷ 53 ∷ 32 ∷ 115 ∷ 116 ∷ 101 ∷ 112 ∷ 115 ∷ 32 ∷ 51 ∷ 10 ∷ []
unfolding digits decimal signed numbered raised_text end_text stop_text machine_line
line_number = refl

-- `bench spent steps 0`
pub line_spent : machine_line 1 bench_word (spent tt) 0 ≡ 98 ∷ 101 ∷ 110 ∷ 99 ∷ 104 ∷ 32 ∷ 115 ∷ 112 ∷ 101 ∷ 110 ∷ 116 ∷ 32 ∷ 115 ∷ 116 ∷ 101 ∷ 112 ∷ 115 ∷ 32 ∷ 48 ∷ 10 ∷ []
unfolding digits decimal numbered stop_text machine_line
line_spent = refl

-- `bench deep steps 10`
pub line_deep : machine_line 1 bench_word (deep tt) 10 ≡ 98 ∷ 101 ∷ 110 ∷ 99 ∷ 104 ∷ 32 ∷ 100 ∷ 101 ∷ 101 ∷ 112 ∷ 32 ∷ 115 ∷ 116 ∷ 101 ∷ 112 ∷ 115 ∷ 32 ∷ 49 ∷ 48 ∷ 10 ∷ []
unfolding digits decimal numbered stop_text machine_line
line_deep = refl

-- `refused 15 at 2048`
pub line_refused : refused_text 15 2048 ≡ 114 ∷ 101 ∷ 102 ∷ 117 ∷ 115 ∷ 101 ∷ 100 ∷ 32 ∷ 49 ∷ 53 ∷ 32 ∷ 97 ∷ 116 ∷ 32 ∷ 50 ∷ 48 ∷ 52 ∷ 56 ∷ 10 ∷ []
unfolding digits decimal numbered refused_text
line_refused = refl

-- `-2147483648`
pub least_value : signed (negsuc 2147483647) ≡ 45 ∷ 50 ∷ 49 ∷ 52 ∷ 55 ∷ 52 ∷ 56 ∷ 51 ∷ 54 ∷ 52 ∷ 56 ∷ []
unfolding digits decimal signed
least_value = refl

-- `18446744073709551615`
pub greatest_number : decimal 18446744073709551615 ≡ 49 ∷ 56 ∷ 52 ∷ 52 ∷ 54 ∷ 55 ∷ 52 ∷ 52 ∷ 48 ∷ 55 ∷ 51 ∷ 55 ∷ 48 ∷ 57 ∷ 53 ∷ 53 ∷ 49 ∷ 54 ∷ 49 ∷ 53 ∷ []
unfolding digits decimal
greatest_number = refl
