use Rattle.translator.specs.BlockLaws.{arm_numbers, call_stands, call_count}
use native.Mathlib.Omega.{arith}
use Rattle.translator_sizes.specs.OperationLaws.{variables_bound}
use Rattle.translator.proofs.blocks.put_called.Goals as goal

pub put_call-requires-clause-base_bound : goal.put_call-requires-clause-base_bound
put_call-requires-clause-base_bound c = let P = c.requires.placed.0 in
    let e = c.requires.placed.1 in (P.base_bound, variables_bound P.here, (arm_numbers P e).0, call_count P e, omega arith, call_stands P e)
