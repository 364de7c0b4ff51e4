use Rattle.translator.specs.FileLaws.{functions_start, functions_next, functions_end}
use native.Mathlib.Omega.{arith}
use Rattle.translator.proofs.translation_size.Goals as goal

pub loop-f-init : goal.loop-f-init
loop-f-init c = functions_start c.args.file.now

pub overflow_add-n : goal.overflow_add-n
overflow_add-n c =
    omega (
      arith,
      c.loop-f.invariant.size_bound,
      c.function_size-n.ensures.1,
      c.table.ensures.right.most,
      rw (c.table.ensures.value) at c.functions-f-end.ensures.count,
    )

pub loop-f-preserved : goal.loop-f-preserved
loop-f-preserved c =
    functions_next c.loop-f.invariant (omega (arith, rw (c.table.ensures.value) at c.functions-f-end.ensures.count)) c.function_size-n.ensures.0 c.function_size-n.ensures.1

pub returns : goal.returns
returns c = functions_end c.loop-f.invariant (omega (arith, rw (c.table.ensures.value) at c.functions-f-end.ensures.count))
