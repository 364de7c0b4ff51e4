-- The examples of document 02, Slip 1, under one theorem, by computation.
use Rattle.std.specs.Prelude.{ℕ, ◌≡◌, refl, List, [], ◌∷◌}
use Rattle.semantics.specs.WellFormed.{All}
use Rattle.prices.specs.Cents.{cents}

-- Steps, and what they cost.
pub record Row : Type 0 where
  pub steps : ℕ
  pub costs : ℕ

-- "So 5,000 steps cost 250, 5,001 cost 253, 100,000 cost 535 and 100,001 cost 537."
abbrev pub table : List Row
table =
    record { steps = 5000; costs = 250 }
    ∷ record { steps = 5001; costs = 253 }
    ∷ record { steps = 100000; costs = 535 }
    ∷ record { steps = 100001; costs = 537 }
    ∷ []

pub cases : All (λ r. cents r.steps ≡ r.costs) table
cases = (refl, (refl, (refl, (refl, tt))))
