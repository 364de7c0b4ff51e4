use Rattle.std.proofs.Common.{sym, ◌∙◌}
use Rattle.std.proofs.lemmas.Result.{err_from_is_err_and}
use Rattle.file_head.specs.HeadLaws.{mark_refused, version_refused, behind_version}
use Rattle.file_head.proofs.head_end.Goals as goal

pub returns-in_err-marked : goal.returns-in_err-marked
returns-in_err-marked c =
    let p = err_from_is_err_and c.from_residual.result c.from_residual.ensures.1 in
    rw (p.1, p.2) (sym (mark_refused c.args.mark.now c.args.limit c.args.file.now (sym c.mark_end.ensures ∙ c.in_err-marked.was)))

pub returns-in_err-versioned : goal.returns-in_err-versioned
returns-in_err-versioned c =
    let p = err_from_is_err_and c.from_residual-in_err-versioned.result c.from_residual-in_err-versioned.ensures.1 in
    let right = sym c.mark_end.ensures ∙ c.in_ok-marked.was in
    rw (p.1, p.2) (sym (version_refused c.args.mark.now c.args.limit c.args.file.now right (sym c.version_end.ensures ∙ c.in_err-versioned.was)))

pub returns : goal.returns
returns c =
    let right = sym c.mark_end.ensures ∙ c.in_ok-marked.was in
    c.size_end.ensures ∙ sym (behind_version c.args.mark.now c.args.limit c.args.file.now right (sym c.version_end.ensures ∙ c.in_ok-versioned.was))
