use Rattle.std.proofs.Common.{lit<}
use Prim.Native.Nat.{◌+◌}
use native.Mathlib.Omega.{arith}
use mathlib.Core.Path.{refl}
use mathlib.Core.List.{◌++◌}
use Rattle.byte_writers.specs.WriteLaws.{room_less, Rest, rest_room, rest_more, rest_last}
use Rattle.merge.specs.Parts.{stretch, call_head, operation_bytes}
use Rattle.merge.proofs.BlockLaws.{plain_rest, call_rest}
use Rattle.merge.proofs.functions.put_operation.Goals as goal

pub put-place-requires : goal.put-place-requires
put-place-requires c =
    let rest_at_lem : Rest c.args.o (operation_bytes c.args.file.now c.args.at c.args.next c.args.count) c.args.out.now c.args.o (call_head c.args.file.now c.args.at c.args.count ++ stretch c.args.file.now (c.args.at + 4) c.args.next) c.args.out.now = call_rest c.args.file.now c.args.at c.args.count c.args.next c.if-file-at-eq4.true c.requires.room in
    (lit< tt, room_less (rest_room (rest_at_lem)) (omega arith))

pub put_stretch-requires-clause-room : goal.put_stretch-requires-clause-room
put_stretch-requires-clause-room c = let rest_at_lem : Rest c.args.o (operation_bytes c.args.file.now c.args.at c.args.next c.args.count) c.args.out.now c.args.o (call_head c.args.file.now c.args.at c.args.count ++ stretch c.args.file.now (c.args.at + 4) c.args.next) c.args.out.now = call_rest c.args.file.now c.args.at c.args.count c.args.next c.if-file-at-eq4.true c.requires.room in
    let fits = c.requires.operation_fits in
    rest_room (rest_more (rest_at_lem) _ _ refl c.put-place.ensures)

pub returns-then-file-at-eq4 : goal.returns-then-file-at-eq4
returns-then-file-at-eq4 c =
    let rest_at_lem : Rest c.args.o (operation_bytes c.args.file.now c.args.at c.args.next c.args.count) c.args.out.now c.args.o (call_head c.args.file.now c.args.at c.args.count ++ stretch c.args.file.now (c.args.at + 4) c.args.next) c.args.out.now = call_rest c.args.file.now c.args.at c.args.count c.args.next c.if-file-at-eq4.true c.requires.room in
    rest_last (rest_more (rest_at_lem) _ _ refl c.put-place.ensures) c.put_stretch.ensures

pub put_stretch-requires-2-clause-room : goal.put_stretch-requires-2-clause-room
put_stretch-requires-2-clause-room c = let fits = c.requires.operation_fits in rest_room (plain_rest c.args.file.now c.args.at c.args.count c.args.next c.if-file-at-eq4.false c.requires.room)

pub returns : goal.returns
returns c =
    rest_last (plain_rest c.args.file.now c.args.at c.args.count c.args.next c.if-file-at-eq4.false c.requires.room) c.put_stretch-2.ensures
