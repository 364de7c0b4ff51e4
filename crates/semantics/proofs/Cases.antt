-- Operation 3, tags 3 and 10 and the comparison at both ends of the range, as one table under one theorem, by computation: the simulation
-- alone would hold for any range and any comparison. The starred cases of document 01, from the bytes of files, are a table of crate `agreement`.
use Rattle.std.specs.Prelude.{ℕ, ◌≡◌, refl, Bool, true, false, List, [], ◌∷◌, ℤ, pos, negsuc, ◌-ℤ◌, drop}
use Rattle.semantics.specs.Value.{wrapped, minus, least, greatest, in_range, at_most}
use Rattle.semantics.specs.Program.{FunctionNumber, Handler, Block, difference, raise, Program}
use Rattle.std.proofs.Math.Option.{none}
use Rattle.semantics.specs.Run.{next}
use Rattle.semantics.specs.Bench.{Frame, state, step}
use Rattle.semantics.specs.WellFormed.{All}
use Rattle.semantics.specs.Code.{Expr, let_difference, let_difference_or_raise, Code}
use Rattle.semantics.specs.Controller.{whole, Environment, Record, control, control_step}

-- A row of the table.
pub data Row : Type 0 where
  wraps : ℤ → ℤ → ℤ → Row  -- tag 3: y less z is
  fits : ℤ → ℤ → ℤ → Row  -- operation 3 and tag 10: y less z is
  misfits : ℤ → ℤ → Row  -- operation 3 and tag 10: y less z raises, and its target keeps its value
  compares : ℤ → ℤ → Bool → Row  -- whether y ≤ z

-- The values of slots, or variables, 0 to 2; slot 2 is the target.
abbrev slots : ℤ → ℤ → ℤ → Environment
slots y z x = whole y ∷ whole z ∷ whole x ∷ []

abbrev values : ℤ → ℤ → ℤ → List ℤ
values y z x = y ∷ z ∷ x ∷ []

abbrev pub Holds : Row → Type 0
Holds (wraps y z v) = (Q : Code) (d : ℕ) (e : Expr) (x : ℤ) (rs : List Record)
    → control_step Q d (control (let_difference 2 0 1 e) (slots y z x) rs) ≡ next (control e (slots y z v) rs)
Holds (fits y z v) =
    ((P : Program) (d : ℕ) (f : FunctionNumber) (h : Handler) (b : Block) (x : ℤ) (fs : List Frame)
    → step P d (state f h (difference 2 0 1 b) (values y z x) fs) ≡ next (state f h b (values y z v) fs))
    × ((Q : Code) (d : ℕ) (r e : Expr) (x : ℤ) (rs : List Record)
    → control_step Q d (control (let_difference_or_raise 2 0 1 r e) (slots y z x) rs) ≡ next (control e (slots y z v) rs))
Holds (misfits y z) =
    ((P : Program) (d : ℕ) (f : FunctionNumber) (h : Handler) (b : Block) (x : ℤ) (fs : List Frame)
    → step P d (state f h (difference 2 0 1 b) (values y z x) fs) ≡ step P d (state f h (raise none) (values y z x) fs))
    × ((Q : Code) (d : ℕ) (r e : Expr) (x : ℤ) (rs : List Record)
    → control_step Q d (control (let_difference_or_raise 2 0 1 r e) (slots y z x) rs) ≡ next (control r (slots y z x) rs))
Holds (compares y z b) = at_most y z ≡ b

abbrev pub table : List Row
table =
    wraps least (pos 1) greatest
    ∷ wraps greatest (negsuc 0) least
    ∷ wraps greatest least (negsuc 0)
    ∷ wraps (pos 3) (pos 5) (negsuc 1)
    ∷ misfits least (pos 1)
    ∷ misfits greatest (negsuc 0)
    ∷ misfits greatest least
    ∷ fits least (pos 0) least
    ∷ fits greatest (pos 0) greatest
    ∷ fits (negsuc 0) greatest least
    ∷ fits (negsuc 0) least greatest
    ∷ fits (pos 3) (pos 5) (negsuc 1)
    ∷ compares least greatest true
    ∷ compares greatest least false
    ∷ compares least (pos 1) true
    ∷ compares greatest (negsuc 0) false
    ∷ compares greatest greatest true
    ∷ []

wrapping : {y z v : ℤ} → minus y z ≡ v → Holds (wraps y z v)
unfolding control_step
wrapping e Q d b x rs = rw e refl

fitting : {y z v : ℤ} → in_range (y -ℤ z) ≡ true → y -ℤ z ≡ v → Holds (fits y z v)
unfolding step control_step
fitting e q = (λ P d f h b x fs. rw (e, q) refl, λ Q d r b x rs. rw (e, q) refl)

raising : {y z : ℤ} → in_range (y -ℤ z) ≡ false → Holds (misfits y z)
unfolding step control_step
raising e = (λ P d f h b x fs. rw e refl, λ Q d r b x rs. rw e refl)

comparisons : All Holds (drop 12 table)
unfolding at_most
comparisons = (refl, (refl, (refl, (refl, (refl, tt)))))

in_range_lem : All Holds (drop 7 table)
unfolding in_range
in_range_lem = (fitting refl refl, (fitting refl refl, (fitting refl refl, (fitting refl refl, (fitting refl refl, comparisons)))))

out_of_range : All Holds (drop 4 table)
unfolding in_range
out_of_range = (raising refl, (raising refl, (raising refl, in_range_lem)))

pub cases : All Holds table
unfolding wrapped minus
cases = (wrapping refl, (wrapping refl, (wrapping refl, (wrapping refl, out_of_range))))
