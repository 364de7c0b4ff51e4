use Rattle.std.proofs.lemmas.Result.{err_from_is_err_and}
use Rattle.std.proofs.Common.{sym, ap, ◌∙◌, arith}
use Rattle.parsing.specs.Parser.{verdict_of}
use Rattle.procedure_names.specs.NamedLaws.{argument_on, argument_wrong, arguments_start}
use Rattle.procedure_names.proofs.names.arguments_named.Goals as goal

pub returns-in_err-variable_named : goal.returns-in_err-variable_named
returns-in_err-variable_named c =
    let i = c.loop-place.invariant in
    let p = err_from_is_err_and c.from_residual.result c.from_residual.ensures.1 in
    rw (p.1, p.2)
    (argument_wrong c.args.file.now c.args.variables c.args.at c.args.count c.requires c.loop-place.place i.1 (omega arith)
    (sym (ap verdict_of c.in_err-variable_named.was) ∙ c.variable_named.ensures) ∙ i.2 ∙
    arguments_start c.args.file.now c.args.variables c.args.at c.args.count c.requires)

pub loop-place-preserved : goal.loop-place-preserved
loop-place-preserved c =
    let i = c.loop-place.invariant in (
      c.requires,
      omega (arith, i.1),
      argument_on c.args.file.now c.args.variables c.args.at c.args.count c.requires c.loop-place.place i.1 (omega arith)
          (sym (ap verdict_of c.in_ok-variable_named.was) ∙ c.variable_named.ensures) ∙ i.2,
    )
