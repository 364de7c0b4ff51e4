use Rattle.translator.specs.FileLaws.{functions_bound, numbering_bound, numbering_more, numbering_end}
use mathlib.Core.Path.{◌∙◌}
use native.Mathlib.Omega.{arith}
use Rattle.translator.proofs.parts.fill_numbers.Goals as goal

pub overflow_cast-numbers : goal.overflow_cast-numbers
overflow_cast-numbers c =
    omega (arith, (numbering_bound c.functions-f-end.ensures.laid c.loop-f.invariant).0)

pub bounds-numbers-f : goal.bounds-numbers-f
bounds-numbers-f c =
    omega (arith, c.loop-f.invariant.table_length, functions_bound c.args.file.now c.functions-f-end.ensures.laid)

pub overflow_add-n-in-loop-f : goal.overflow_add-n-in-loop-f
overflow_add-n-in-loop-f c =
    omega (arith, (numbering_bound c.functions-f-end.ensures.laid c.loop-f.invariant).0)

pub loop-f-preserved : goal.loop-f-preserved
loop-f-preserved c =
    numbering_more c.functions-f-end.ensures.laid c.loop-f.invariant (omega arith)
    (c.from-labels.ensures ∙ c.labels_of.ensures)

pub returns : goal.returns
returns c =
    numbering_end c.functions-f-end.ensures.laid c.loop-f.invariant (omega arith)
