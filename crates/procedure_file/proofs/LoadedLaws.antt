-- What a caller of `load` learns from the answer.
use Rattle.std.specs.Prelude.{ℕ, ◌≡◌, List, Err, Ok, Result}
use Rattle.std.proofs.Common.{sym, ap, ◌∙◌, subst}
use Rattle.parsing.specs.declared.Refusal.{Refusal}
use Rattle.parsing.specs.Parser.{Verdict, verdict_of}
use Rattle.procedure_file.specs.Check.{check_of}
use Rattle.procedure_file.specs.Loaded.{Loaded, LoadedOr}
use Rattle.procedure_file.specs.FileInvariant.{FileInvariant}
use Rattle.procedure_file.proofs.FileInvariantLaws.{invariant}

module _ (s starts starts' : List ℕ) (r : Result (Unit {0}) Refusal) (bare_stop : verdict_of r ≡ check_of s) (lent : LoadedOr (check_of s) s starts starts') where
  answer : (c : Result (Unit {0}) Refusal) → r ≡ c → LoadedOr (verdict_of c) s starts starts'
  answer c e = subst (λ (v : Verdict). LoadedOr v s starts starts') (sym bare_stop ∙ ap verdict_of e) lent

  pub loaded : r ≡ (Ok tt) → Loaded s starts'
  loaded e = answer (Ok tt) e

  pub unchanged : (q : Refusal) → r ≡ Err q → starts' ≡ starts
  unchanged q e = answer (Err q) e

pub loaded_invariant : {s starts : List ℕ} → Loaded s starts → FileInvariant s
loaded_invariant {s} L = invariant s L.tabled.laid.bytes L.is_accepted
