use Prim.Native.Nat.{◌+◌, ◌<◌}
use native.Mathlib.Omega.{arith}
use lib.ListN.{length}
use Rattle.semantics.specs.Program.{function_of}
use Rattle.semantics.specs.Merge.{renumbered_function}
use Rattle.procedure_names.specs.Writing.{function_bytes}
use Rattle.procedure_file.specs.Check.{program_of}
use Rattle.byte_writers.specs.WriteLaws.{rest_from_lem, rest_as, rest_more, rest_done, room_front}
use Rattle.merge.proofs.FunctionLaws.{functions_from, functions_first, functions_more, functions_none}
use Rattle.merge.proofs.functions.put_functions.Goals as goal

pub loop-f-init : goal.loop-f-init
loop-f-init c =
    rest_from_lem c.requires.room (functions_first c.args.file.now c.args.count)

pub put_function-place-requires-clause-room : goal.put_function-place-requires-clause-room
put_function-place-requires-clause-room c = let s = c.args.file.now in
    let f = c.loop-f.f in
    let n = c.args.count in
    let below : f < length (program_of s) = omega (arith, rw (c.table.ensures.value) at c.functions-f-end.ensures.count) in
    let first = function_bytes (renumbered_function n (function_of (program_of s) f)) in
    room_front first (functions_from s (f + 1) n) (rest_as c.loop-f.invariant _ (functions_more s f n below))

pub loop-f-preserved : goal.loop-f-preserved
loop-f-preserved c =
    let s = c.args.file.now in
    let f = c.loop-f.f in
    let n = c.args.count in
    let below : f < length (program_of s) = omega (arith, rw (c.table.ensures.value) at c.functions-f-end.ensures.count) in
    rest_more c.loop-f.invariant (function_bytes (renumbered_function n (function_of (program_of s) f))) (functions_from s (f + 1) n) (functions_more s f n below) c.put_function-place.ensures

pub returns : goal.returns
returns c =
    rest_done c.loop-f.invariant
    (functions_none c.args.file.now c.loop-f.f c.args.count (omega (arith, rw (c.table.ensures.value) at c.functions-f-end.ensures.count)))
