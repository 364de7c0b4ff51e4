use Rattle.parsing.specs.declared.reason.Reason.TheVariants.{CalleeArity}
use mathlib.Core.Path.{ap, ◌∙◌}
use Prim.Native.Nat.{ℕ}
use lib.Dec.{eqb}
use Rattle.parsing.specs.Parser.{refused_unless}
use Rattle.target_names.specs.Names.{arity}
use Rattle.target_names.proofs.names.counts.Goals as goal

pub returns : goal.returns
unfolding arity
returns c =
    c.refused_unless.ensures ∙ ap (λ (m : ℕ). refused_unless (eqb c.args.count m) CalleeArity c.args.place) c.params_of.ensures
