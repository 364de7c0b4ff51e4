use Rattle.std.proofs.lemmas.Result.{err_from_is_err_and}
use Rattle.std.proofs.Common.{◌∙◌, arith}
use Rattle.procedure_file.proofs.FileNamesLaws.{function_wrong, function_right, all_names}
use Rattle.procedure_file.proofs.check.file_named.Goals as goal

pub loop-f-init : goal.loop-f-init
loop-f-init c = all_names c.args.file.now c.args.params.now c.functions-f-end.ensures.laid c.requires.params_value

pub returns-in_err-function_named : goal.returns-in_err-function_named
returns-in_err-function_named c =
    let p = err_from_is_err_and c.from_residual.result c.from_residual.ensures.1 in
    rw (p.1, p.2)
    (function_wrong c.args.file.now c.args.params.now c.functions-f-end.ensures.laid c.requires.params_value c.loop-f.f (omega (arith, c.functions-f-end.ensures.count, c.loop-f-test.true)) _
    c.function_named.ensures _ c.in_err-function_named.was ∙ c.loop-f.invariant)

pub loop-f-preserved : goal.loop-f-preserved
loop-f-preserved c =
    function_right c.args.file.now c.args.params.now c.functions-f-end.ensures.laid c.requires.params_value c.loop-f.f (omega (arith, c.functions-f-end.ensures.count, c.loop-f-test.true)) _
    c.function_named.ensures c.in_ok-function_named.was ∙ c.loop-f.invariant
