-- The head of a file with its size judged first, the order before Slip 5 of document 02, over both versions; and which answers of a check differ from
-- that order's.
use Rattle.std.specs.Prelude.{ℕ, ◌+◌, ◌*◌, ◌<◌, ◌≡◌, List, length, get_or, take}
use Rattle.parsing.specs.declared.reason.Reason.TheVariants.{WrongMark, WrongVersion, FileTooLong}
use Rattle.parsing.specs.Parser.{Parser, ◌>>=◌, Verdict, refused}
use Rattle.parsing.specs.Fields.{marked, IsVersion, version, within}

-- "Order: 15; then 1 to 6": the size, the mark, the version.
unfoldable pub head_size_first : List ℕ → ℕ → Parser (Unit {0})
head_size_first mark limit = do
  _ ← within limit
  _ ← marked mark
  version

-- A file begins with its mark.
abbrev pub RightMark : List ℕ → List ℕ → Type 0
RightMark mark s = take (length mark) s ≡ mark

-- The first byte that is not its mark's stands at i.
pub record MarkWrongAt (mark s : List ℕ) (i : ℕ) : Type 0 where
  pub inside : i < length mark
  pub before : take i s ≡ take i mark
  pub wrong : get_or s i 0 ≡ get_or mark i 0 → ⊥

-- The version behind its mark is 1 or 2.
abbrev pub KnownVersion : List ℕ → List ℕ → Type 0
KnownVersion mark s = IsVersion (get_or s (length mark) 0 + 256 * get_or s (length mark + 1) 0)

-- "Changed answers" of a check of the file s, by its kind's mark and limit: with the size first, and now.
pub data AnswerChange (mark : List ℕ) (limit : ℕ) (s : List ℕ) : Verdict → Verdict → Type 0 where
  -- "an overlong file with a wrong mark, 15 before, now 1"
  mark_refused : {i : ℕ} → limit < length s → MarkWrongAt mark s i → AnswerChange mark limit s (refused FileTooLong limit) (refused WrongMark i)
  -- "an overlong file with a right mark and an unknown version, 15 before, now 2"
  version_refused : limit < length s → RightMark mark s → (KnownVersion mark s → ⊥) → AnswerChange mark limit s (refused FileTooLong limit) (refused WrongVersion (length mark))
  -- "All others hold."
  held : {v : Verdict} → (limit < length s → RightMark mark s × KnownVersion mark s) → AnswerChange mark limit s v v
