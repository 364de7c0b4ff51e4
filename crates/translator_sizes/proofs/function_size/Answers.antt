use Rattle.translator_sizes.specs.FunctionLaws.{blocks_start, blocks_next, blocks_end}
use native.Mathlib.Omega.{arith}
use Rattle.translator_sizes.proofs.function_size.Goals as goal

pub loop-l-init : goal.loop-l-init
loop-l-init c =
    blocks_start c.args.file.now c.args.f

pub loop-l-preserved : goal.loop-l-preserved
loop-l-preserved c = blocks_next c.loop-l.invariant (omega (arith, rw (c.table.ensures.value) at c.labels_of.ensures)) c.label_size-n.ensures

pub returns : goal.returns
returns c = (
  blocks_end c.loop-l.invariant (omega (arith, rw (c.table.ensures.value) at c.labels_of.ensures)),
  omega (
    arith,
    c.loop-l.invariant.size_bound,
    rw (c.table.ensures.value) at c.labels_of.ensures,
    (c.table.ensures.right.counts c.args.f c.requires.f_in_bounds).blocks,
  ),
)
