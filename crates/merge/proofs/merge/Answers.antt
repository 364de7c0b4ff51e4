use Rattle.std.proofs.lemmas.Result.{err_from_is_err_and}
use Rattle.runs.proofs.OutputLaws.{answer_refused, answer_accepted}
use Rattle.procedure_file.proofs.LoadedLaws.{loaded, loaded_invariant}
use Rattle.merge.specs.Merged.{merged_of, merge_verdict, answer_of, output_of}
use Rattle.merge.proofs.merge.Goals as goal

pub returns-in_err-load : goal.returns-in_err-load
unfolding answer_of output_of merge_verdict
returns-in_err-load c =
    let p = err_from_is_err_and c.from_residual.result c.from_residual.ensures.1 in
    let A = answer_refused (merged_of c.args.first.now c.args.second.now) c.args.out.now c.load.ensures.0 _ c.in_err-load.was in
    rw (p.1, p.2) (A.answer, A.output)

pub returns-in_err-load-2 : goal.returns-in_err-load-2
unfolding answer_of output_of merge_verdict
returns-in_err-load-2 c =
    let w = merged_of c.args.first.now c.args.second.now in
    let d = c.args.out.now in
    let p = err_from_is_err_and c.from_residual-in_err-load-2.result c.from_residual-in_err-load-2.ensures.1 in
    let A = answer_accepted w d c.load.ensures.0 _ c.in_ok-load.was (answer_refused w d c.load-2.ensures.0 _ c.in_err-load-2.was) in
    rw (p.1, p.2) (A.answer, A.output)

pub returns : goal.returns
unfolding answer_of output_of merge_verdict
returns c =
    let w = merged_of c.args.first.now c.args.second.now in
    let d = c.args.out.now in
    let A = answer_accepted w d c.load.ensures.0 _ c.in_ok-load.was
    (answer_accepted w d c.load-2.ensures.0 _ c.in_ok-load-2.was
    (record { answer = rw (c.new-added.ensures) at c.merge_loaded.ensures.0; output = rw (c.new-added.ensures) at c.merge_loaded.ensures.1 })) in
    (A.answer, A.output)

pub merge_loaded-requires : goal.merge_loaded-requires
merge_loaded-requires c =
    let L = loaded _ _ _ _ c.load.ensures.0 c.load.ensures.1 c.in_ok-load.was in
    (L.tabled.laid, loaded_invariant L)
