use Rattle.std.proofs.lemmas.Result.{MatchResult-at_err}
use Rattle.procedure_lookup.proofs.LookupLaws.{lookup_told}
use Rattle.procedure_lookup.proofs.block_refusal.Goals as goal

pub returns : goal.returns
returns c =
    lookup_told c.args.file.now c.args.f c.args.label c.place_of.result c.map.result c.place_of.ensures
    (λ q e. MatchResult-at_err _ _ q e c.map.ensures.cases) c.map.ensures.variant
