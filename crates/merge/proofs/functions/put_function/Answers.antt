use Prim.Native.Nat.{◌+◌, ◌<◌}
use native.Mathlib.Omega.{arith}
use mathlib.Core.Path.{refl}
use mathlib.Core.List.{◌++◌}
use lib.ListN.{length}
use Rattle.semantics.specs.Program.{function_of}
use Rattle.semantics.specs.Merge.{renumbered_function}
use Rattle.procedure_names.specs.Writing.{function_bytes}
use Rattle.procedure_file.specs.Check.{program_of}
use Rattle.byte_writers.specs.WriteLaws.{Rest, rest_none, rest_from_lem, rest_room, rest_as, rest_more, rest_done, rest_last, room_front, rest_front}
use Rattle.byte_writers.specs.Writes.{Room}
use Rattle.merge.specs.Parts.{entry_bytes, label_bytes}
use Rattle.merge.proofs.FunctionLaws.{labels_from, labels_more, labels_none, function_is}
use Rattle.merge.proofs.functions.put_function.Goals as goal

pub put_entry-place-requires-clause-room : goal.put_entry-place-requires-clause-room
put_entry-place-requires-clause-room c = let front_at : Room c.args.o (length (entry_bytes c.args.file.now c.args.f c.args.count)) c.args.out.now = let whole-at : Rest c.args.o
    (function_bytes (renumbered_function c.args.count (function_of (program_of c.args.file.now) c.args.f))) c.args.out.now c.args.o (entry_bytes c.args.file.now c.args.f
    c.args.count ++ labels_from c.args.file.now c.args.f 0 c.args.count) c.args.out.now = rest_from_lem c.requires.room (function_is c.args.file.now c.args.f c.args.count) in
    rest_front (entry_bytes c.args.file.now c.args.f c.args.count) _ (whole-at) in
    front_at

pub loop-l-init : goal.loop-l-init
loop-l-init c =
    let whole-at : Rest c.args.o (function_bytes (renumbered_function c.args.count (function_of (program_of c.args.file.now) c.args.f))) c.args.out.now c.args.o (entry_bytes c.args.file.now c.args.f c.args.count ++ labels_from c.args.file.now c.args.f 0 c.args.count) c.args.out.now = rest_from_lem c.requires.room (function_is c.args.file.now c.args.f c.args.count) in
    rest_none (rest_room (rest_more (whole-at) _ _ refl c.put_entry-place.ensures))

pub put_label-place-requires-clause-room : goal.put_label-place-requires-clause-room
put_label-place-requires-clause-room c = let s = c.args.file.now in
    let f = c.args.f in
    let l = c.loop-l.l in
    let n = c.args.count in
    let below : l < length (function_of (program_of s) f).blocks = omega (arith, rw (c.table.ensures.value) at c.labels_of.ensures) in room_front (label_bytes s f (l + 1) n) (labels_from s f (l + 1) n) (rest_as c.loop-l.invariant _ (labels_more s f l n below))

pub loop-l-preserved : goal.loop-l-preserved
loop-l-preserved c =
    let s = c.args.file.now in
    let f = c.args.f in
    let l = c.loop-l.l in
    let n = c.args.count in
    rest_more c.loop-l.invariant (label_bytes s f (l + 1) n) (labels_from s f (l + 1) n)
    (labels_more s f l n (omega (arith, rw (c.table.ensures.value) at c.labels_of.ensures))) c.put_label-place.ensures

pub returns : goal.returns
returns c =
    let whole-at : Rest c.args.o (function_bytes (renumbered_function c.args.count (function_of (program_of c.args.file.now) c.args.f))) c.args.out.now c.args.o (entry_bytes c.args.file.now c.args.f c.args.count ++ labels_from c.args.file.now c.args.f 0 c.args.count) c.args.out.now = rest_from_lem c.requires.room (function_is c.args.file.now c.args.f c.args.count) in
    rest_last (rest_more (whole-at) _ _ refl c.put_entry-place.ensures)
    (rest_done c.loop-l.invariant
    (labels_none c.args.file.now c.args.f c.loop-l.l c.args.count
    (omega (arith, rw (c.table.ensures.value) at c.labels_of.ensures))))
