-- What controller steps cost, in cents (document 02, Slip 1).
use Rattle.std.specs.Prelude.{ℕ, ◌+◌, ◌-◌, ◌*◌, ◌/◌, min}

-- The thousands that n steps have started above a border: one with the first step above it, two with the 1,001st. (`-` stops at 0.)
abbrev pub started_above : (border n : ℕ) → ℕ
started_above border n = (n - border + 999) / 1000

-- "A procedure costs 250 cents. Each started thousand steps above 5,000 adds 3 cents, and each started thousand above 100,000 adds 2 in
-- place of 3."
abbrev pub cents : ℕ → ℕ
cents n = 250 + 3 * started_above 5000 (min n 100000) + 2 * started_above 100000 n
