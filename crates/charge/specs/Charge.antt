-- The charge of a run's answer, in cents (document 02, Slip 1).
use Rattle.std.specs.Prelude.{ℕ, ◌+◌, leb}
use Rattle.semantics.specs.Run.{Stop, ended, spent, deep, broken, Result}
use Rattle.parsing.specs.declared.reason.Reason.TheVariants.{NoCharge}
use Rattle.parsing.specs.Parser.{refused_unless}
use Rattle.runs.specs.Tells.{Tells, refuses, tells, by_verdict}
use Rattle.bench.specs.Published as Bench
use Rattle.prices.specs.Cents.{cents}

-- The largest number of 64 bits.
abbrev pub max_steps : ℕ
max_steps = 18446744073709551615

-- The charge of a run that stopped so, with so many controller steps: 18 when it "did not end, or its steps .. pass 64 bits".
abbrev pub stop_charge : Stop (Unit {0}) → ℕ → Tells ℕ
stop_charge (ended e) n = by_verdict (refused_unless (leb n max_steps) NoCharge 0) (cents n)
stop_charge (spent s) n = refuses NoCharge 0
stop_charge (deep s) n = refuses NoCharge 0
stop_charge (broken s) n = refuses NoCharge 0

-- The charge of what a call tells, its steps being controller steps: 18 "when the run was refused" too.
unfoldable pub charge : Tells (Result (Unit {0})) → Tells ℕ
charge (refuses reason place) = refuses NoCharge 0
charge (tells r) = stop_charge r.stop r.steps

-- What the bench tells, in controller steps: bench steps + extras.
abbrev pub with_extras : Tells Bench.BenchSummary → Tells (Result (Unit {0}))
with_extras (refuses reason place) = refuses reason place
with_extras (tells t) = tells (record { stop = t.result.stop; steps = t.result.steps + t.extras })
