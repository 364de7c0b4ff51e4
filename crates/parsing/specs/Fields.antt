-- The fields that files of both kinds share (document 01, 'What is turned down'), with the refusals 1 to 5 and 15.
use Rattle.std.specs.Prelude.{ℕ, ◌+◌, ◌*◌, ◌≤◌, Bool, false, cond, List, [], ◌∷◌, leb, ltb, eqb, ℤ, length, get_or, Err, Ok, Result}
use Rattle.std.specs.Int.{w32}
use Rattle.std.proofs.Common.{to_z}
use Rattle.parsing.specs.declared.Refusal.{Refusal}
use Rattle.parsing.specs.declared.reason.Reason.TheVariants.{WrongMark, WrongVersion, EndsEarly, LeftOver, OutOfRange, FileTooLong}
use Rattle.parsing.specs.Parser.{refusal, Parsed, read, refuse, Parser, and_then, ◌>>=◌}

-- "3 file ends early (place: its length)."
abbrev pub cut : List ℕ → Refusal
cut s = refusal EndsEarly (length s)

abbrev pub byte : Parser ℕ
byte s at = cond (ltb at (length s)) (read (get_or s at 0) (at + 1)) (refuse (cut s))

-- "Mark bytes are judged one by one": "1 wrong mark byte".
abbrev pub marked : List ℕ → Parser (Unit {0})
marked [] s at = read tt at
marked (m ∷ ms) s at =
    cond (ltb at (length s)) (cond (eqb (get_or s at 0) m) (marked ms s (at + 1)) (refuse (refusal WrongMark at))) (refuse (cut s))

-- "version (16 bits, 1)"; document 02 (Slip 7) has version 2 beside it.
abbrev pub IsVersion : ℕ → Type 0
IsVersion v = (1 ≤ v) × (v ≤ 2)

abbrev pub is_version : ℕ → Bool
is_version v = cond (leb 1 v) (leb v 2) false

-- The version, judged once it is whole: "2 version".
unfoldable pub version : Parser (Unit {0})
version s at =
    cond (leb (at + 2) (length s))
    (cond (is_version (get_or s at 0 + 256 * get_or s (at + 1) 0)) (read tt (at + 2)) (refuse (refusal WrongVersion at)))
    (refuse (cut s))

-- The version that a file's head gives: its low byte, which stands behind the mark.
abbrev pub version_of : List ℕ → ℕ
version_of s = get_or s 3 0

-- "15 file above its limit (.. place: the limit)."
abbrev pub within : ℕ → Parser (Unit {0})
within limit s at = cond (leb (length s) limit) (read tt at) (refuse (refusal FileTooLong limit))

-- The head of a file, by its mark and its limit. "Mark and version are to be tested before size" (document 02, Slip 5).
unfoldable pub head : List ℕ → ℕ → Parser (Unit {0})
head mark limit = do
  _ ← marked mark
  _ ← version
  within limit

-- "5 count .. outside its range".
unfoldable pub count : ℕ → ℕ → Parser ℕ
count low high s at =
    and_then (byte s at)
    (λ n next. cond (leb low n) (cond (leb n high) (read n next) (refuse (refusal OutOfRange at))) (refuse (refusal OutOfRange at)))

-- What the function that reads a count answers.
abbrev pub counted : Parsed ℕ → Result ℕ Refusal
counted (read n next) = Ok n
counted (refuse r) = Err r

-- "4 bytes left over."
unfoldable pub ended : Parser (Unit {0})
ended s at = cond (ltb at (length s)) (refuse (refusal LeftOver at)) (read tt at)

-- "4-byte signed value", "the low byte first".
unfoldable pub value_of : ℕ → ℕ → ℕ → ℕ → ℤ
value_of b0 b1 b2 b3 = to_z w32 (b0 + 256 * b1 + 65536 * b2 + 16777216 * b3)

-- The signed value whose first byte stands at an offset.
abbrev pub value_at : List ℕ → ℕ → ℤ
value_at s at = value_of (get_or s at 0) (get_or s (at + 1) 0) (get_or s (at + 2) 0) (get_or s (at + 3) 0)
