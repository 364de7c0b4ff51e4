use Rattle.std.proofs.lemmas.Result.{err_from_is_err_and}
use Rattle.runs.proofs.OutputLaws.{answer_refused, answer_accepted}
use Rattle.translator.specs.Translated.{translation_of, translate_verdict, answer_of, output_of}
use Rattle.translator.proofs.translate.Goals as goal

pub returns-in_err-load : goal.returns-in_err-load
unfolding answer_of output_of translate_verdict
returns-in_err-load c =
    let p = err_from_is_err_and c.from_residual.result c.from_residual.ensures.1 in
    let F = answer_refused (translation_of c.args.file.now) c.args.out.now c.load.ensures.0 _ c.in_err-load.was in
    rw (p.1, p.2) (F.answer, F.output)

pub returns : goal.returns
unfolding answer_of output_of translate_verdict
returns c =
    let F = answer_accepted (translation_of c.args.file.now) c.args.out.now c.load.ensures.0 _ c.in_ok-load.was
    (record { answer = rw (c.new-loaded.ensures) at c.translate_loaded.ensures.0; output = rw (c.new-loaded.ensures) at c.translate_loaded.ensures.1 }) in
    (F.answer, F.output)
