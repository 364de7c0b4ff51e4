-- A reader of a part of a file: at an offset, what stands there and the offset past it, or a refusal.
use Rattle.std.specs.Prelude.{ℕ, zero, suc, Bool, true, false, List, [], ◌∷◌, ◌++◌, Err, Ok, Result}
use Rattle.parsing.specs.declared.Refusal.{Refusal}
use Rattle.parsing.specs.declared.reason.Reason.{Reason}

-- A refusal is a reason and a place.
abbrev pub refusal : Reason → ℕ → Refusal
refusal reason place = record { reason = reason; place = place }

pub data Parsed (A : Type 0) : Type 0 where
  read : A → ℕ → Parsed A
  refuse : Refusal → Parsed A

abbrev pub Parser : Type 0 → Type 0
Parser A = List ℕ → ℕ → Parsed A

abbrev pub give : {A : Type 0} → A → Parser A
give a s at = read a at

-- What follows a part that was read; a refusal stands.
abbrev pub and_then : {A B : Type 0} → Parsed A → (A → ℕ → Parsed B) → Parsed B
and_then (read a next) rest = rest a next
and_then (refuse r) rest = refuse r

abbrev pub ◌>>=◌ : {A B : Type 0} → Parser A → (A → Parser B) → Parser B
◌>>=◌ p k s at = and_then (p s at) (λ a next. k a s next)

abbrev pub ◌>>◌ : {A B : Type 0} → Parser A → Parser B → Parser B
◌>>◌ p q s at = and_then (p s at) (λ a next. q s next)

-- n parts, one after the other.
abbrev pub many : {A : Type 0} → ℕ → Parser A → Parser (List A)
many zero p = give []
many (suc n) p = do
  a ← p
  more ← many n p
  give (a ∷ more)

-- The writing of parts, one after the other.
abbrev pub joined : {A : Type 0} → (A → List ℕ) → List A → List ℕ
joined bytes [] = []
joined bytes (a ∷ more) = bytes a ++ joined bytes more

-- The offset past a part, without what was read.
abbrev pub past_of : {A : Type 0} → Parsed A → Result ℕ Refusal
past_of (read a next) = Ok next
past_of (refuse r) = Err r

-- What follows the offset past a part; a refusal stands.
abbrev pub past_then : Result ℕ Refusal → (ℕ → Result ℕ Refusal) → Result ℕ Refusal
past_then (Ok next) rest = rest next
past_then (Err r) rest = Err r

-- The offset past n parts, by the offset past the part at each offset.
abbrev pub past_many : ℕ → (ℕ → Result ℕ Refusal) → ℕ → Result ℕ Refusal
past_many zero past at = Ok at
past_many (suc n) past at = past_then (past at) (past_many n past)

-- The answer of a check.
pub data Verdict : Type 0 where
  accepted : Verdict
  refused : (reason : Reason) (place : ℕ) → Verdict

-- The first of two answers that refuses.
abbrev pub or_else : Verdict → Verdict → Verdict
or_else accepted v = v
or_else (refused r p) v = refused r p

-- A refusal, unless a test holds.
abbrev pub refused_unless : Bool → Reason → ℕ → Verdict
refused_unless true reason place = accepted
refused_unless false reason place = refused reason place

abbrev pub verdict_of : Result (Unit {0}) Refusal → Verdict
verdict_of (Ok t) = accepted
verdict_of (Err r) = refused r.reason r.place
