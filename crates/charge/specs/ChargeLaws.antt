-- The charge of what an answer tells, as the code has it.
use Rattle.parsing.specs.declared.reason.Reason.TheVariants.{NoCharge}
use Rattle.std.specs.Prelude.{ℕ, ◌+◌, ◌≤◌, ◌<◌, ◌≡◌, refl}
use Rattle.std.proofs.Common.{le-leb, ap, ◌∙◌}
use Rattle.std.proofs.lemmas.Bool.{lt-leb}
use Rattle.semantics.specs.Run.{End, Stop, ended, spent, deep, broken}
use Rattle.parsing.specs.Parser.{Verdict, accepted, refused}
use Rattle.runs.specs.Tells.{refuses, tells, by_verdict}
use Rattle.bench.specs.Published.{BenchSummary}
use Rattle.prices.specs.Cents.{cents}
use Rattle.charge.specs.Charge.{max_steps, charge, with_extras}

-- An ended run whose steps do not pass 64 bits is charged.
pub ended_charged : (stop : Stop (Unit {0})) (n : ℕ) (e : End) → stop ≡ ended e → n ≤ max_steps → charge (tells (record { stop = stop; steps = n })) ≡ tells (cents n)
unfolding charge
ended_charged stop n e q h = rw (q, le-leb n max_steps h)

-- Steps that pass 64 bits have no charge, however the run stopped.
pub past_uncharged : (v : Verdict) (stop : Stop (Unit {0})) (n : ℕ) → max_steps < n → charge (by_verdict v (record { stop = stop; steps = n })) ≡ refuses NoCharge 0
unfolding charge
past_uncharged accepted (ended e) n h = rw (lt-leb n max_steps h)
past_uncharged accepted (spent s) n h = refl
past_uncharged accepted (deep s) n h = refl
past_uncharged accepted (broken s) n h = refl
past_uncharged (refused reason place) stop n h = refl

-- Extras are added to what an accepted call tells.
pub extras_added : (v : Verdict) (t : BenchSummary) → with_extras (by_verdict v t) ≡ by_verdict v (record { stop = t.result.stop; steps = t.result.steps + t.extras })
extras_added accepted t = refl
extras_added (refused reason place) t = refl

-- So a run of the bench whose steps and extras together pass 64 bits has none.
pub extras_uncharged : (v : Verdict) (t : BenchSummary) → max_steps < t.result.steps + t.extras → charge (with_extras (by_verdict v t)) ≡ refuses NoCharge 0
extras_uncharged v t h = ap charge (extras_added v t) ∙ past_uncharged v t.result.stop (t.result.steps + t.extras) h
