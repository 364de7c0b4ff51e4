use Rattle.translator.specs.FileLaws.{functions_from, functions_first, functions_more, functions_none}
use Rattle.byte_writers.specs.WriteLaws.{rest_from_lem, rest_as, rest_more, rest_done, room_front}
use Rattle.translator_sizes.specs.Parts.{function_bytes}
use Prim.Native.Nat.{◌+◌}
use native.Mathlib.Omega.{arith}
use Rattle.translator.proofs.parts.put_functions.Goals as goal

pub loop-f-init : goal.loop-f-init
loop-f-init c =
    rest_from_lem c.requires.room (functions_first c.args.file.now)

pub put_function-place-requires-clause-room : goal.put_function-place-requires-clause-room
put_function-place-requires-clause-room c = room_front (function_bytes c.args.file.now c.loop-f.f) (functions_from c.args.file.now (c.loop-f.f + 1))
    (rest_as c.loop-f.invariant _ (functions_more c.args.file.now c.loop-f.f (omega (arith, rw (c.table.ensures.value) at c.functions-count.ensures.count))))

pub loop-f-preserved : goal.loop-f-preserved
loop-f-preserved c =
    rest_more c.loop-f.invariant (function_bytes c.args.file.now c.loop-f.f) (functions_from c.args.file.now (c.loop-f.f + 1))
    (functions_more c.args.file.now c.loop-f.f (omega (arith, rw (c.table.ensures.value) at c.functions-count.ensures.count))) c.put_function-place.ensures

pub returns : goal.returns
returns c =
    rest_done c.loop-f.invariant (functions_none c.args.file.now c.loop-f.f (omega (arith, rw (c.table.ensures.value) at c.functions-count.ensures.count)))
