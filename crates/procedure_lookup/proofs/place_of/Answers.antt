use Rattle.std.proofs.lemmas.Result.{err_from_is_err_and}
use Rattle.std.proofs.Common.{◌∙◌}
use Rattle.procedure_file.proofs.LoadedLaws.{loaded}
use Rattle.procedure_lookup.proofs.LookupLaws.{place_refused, place_found}
use Rattle.procedure_lookup.proofs.place_of.Goals as goal

pub returns-in_err-load : goal.returns-in_err-load
returns-in_err-load c =
    let p = err_from_is_err_and c.from_residual.result c.from_residual.ensures.1 in
    rw (p.1, p.2) (place_refused c.args.file.now c.args.f c.args.label _ _ c.load.ensures.0 c.in_err-load.was)

pub returns : goal.returns
returns c =
    (rw (c.table.ensures.value, c.new-loaded.ensures) at c.find.ensures) ∙ place_found c.args.file.now c.args.f c.args.label _ _ c.from.ensures c.from-2.ensures
    (loaded c.args.file.now _ _ _ c.load.ensures.0 c.load.ensures.1 c.in_ok-load.was).is_accepted
