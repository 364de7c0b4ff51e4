use Rattle.procedure_names.specs.NamedLaws.{callee_none, callee_right, callee_wrong}
use Rattle.procedure_operations.specs.NumbersLaws.{function_is, function_none}
use Rattle.std.proofs.Common.{◌+◌, length, arith}
use Rattle.procedure_names.proofs.names.callee_named.Goals as goal

pub arity_of-requires : goal.arity_of-requires
arity_of-requires c =
    let f = (function_is c.args.g (length c.args.params.now) _ c.function_number.ensures c.in-Some.callee c.in-Some.is) in
    omega (arith, f.0, f.1)

pub returns-in_default : goal.returns-in_default
returns-in_default c =
    callee_none c.args.params.now (c.args.at + 2) (c.args.at + 3) c.args.g c.args.count
    (function_none c.args.g (length c.args.params.now) _ c.function_number.ensures c.in_default.is)

pub returns-then-arity_of-count : goal.returns-then-arity_of-count
returns-then-arity_of-count c =
    callee_wrong c.args.params.now (c.args.at + 2) (c.args.at + 3) c.args.g c.args.count _ _
    (function_is c.args.g (length c.args.params.now) _ c.function_number.ensures c.in-Some.callee c.in-Some.is)
    c.arity_of.ensures c.if-arity_of-count.true

pub returns : goal.returns
returns c =
    callee_right c.args.params.now (c.args.at + 2) (c.args.at + 3) c.args.g c.args.count _ _
    (function_is c.args.g (length c.args.params.now) _ c.function_number.ensures c.in-Some.callee c.in-Some.is)
    c.arity_of.ensures c.if-arity_of-count.false
