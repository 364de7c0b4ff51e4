use native.Mathlib.Omega.{arith}
use mathlib.Core.Path.{refl}
use lib.ListN.{length}
use Rattle.byte_writers.specs.WriteLaws.{room_less, rest_room, rest_more, rest_last, rest_front}
use Rattle.merge.specs.Parts.{stretch}
use Rattle.merge.proofs.FileLaws.{first_long, file_rest, few, count_is_lem}
use Rattle.merge.proofs.put_file.Goals as goal

pub overflow_add-all : goal.overflow_add-all
overflow_add-all c =
    let kept = c.functions_of-kept.ensures in
    let added = rw (c.table.ensures.value) at c.functions.ensures.count in
    let few-at = few c.requires.first.1 c.table.ensures.right kept added in
    omega (arith, few-at.0, few-at.1)

pub overflow_cast-all : goal.overflow_cast-all
overflow_cast-all c =
    let kept = c.functions_of-kept.ensures in
    let added = rw (c.table.ensures.value) at c.functions.ensures.count in
    let few-at = few c.requires.first.1 c.table.ensures.right kept added in
    omega (arith, few-at.0, few-at.1)

pub put_head-head-requires : goal.put_head-head-requires
put_head-head-requires c =
    let F = c.requires.first.1 in
    let G = c.table.ensures.right in
    let version = c.version_of-version.ensures in
    let kept = c.functions_of-kept.ensures in
    let added = rw (c.table.ensures.value) at c.functions.ensures.count in
    let rest = file_rest F G c.requires.first.0 _ _ _ version (count_is_lem F G kept added) kept c.requires.room in
    room_less (rest_room rest) (omega arith)

pub put_stretch-place-requires-clause-at_le_next : goal.put_stretch-place-requires-clause-at_le_next
put_stretch-place-requires-clause-at_le_next c =
    let long = first_long c.requires.first.1 c.table.ensures.right in
    (long, omega arith)

pub put_stretch-place-requires-clause-room : goal.put_stretch-place-requires-clause-room
put_stretch-place-requires-clause-room c =
    let F = c.requires.first.1 in
    let G = c.table.ensures.right in
    let file = c.args.first.now in
    let version = c.version_of-version.ensures in
    let kept = c.functions_of-kept.ensures in
    let added = rw (c.table.ensures.value) at c.functions.ensures.count in
    let rest = file_rest F G c.requires.first.0 _ _ _ version (count_is_lem F G kept added) kept c.requires.room in
    (rest_front (stretch file 6 (length file)) _ (rest_more rest _ _ refl c.put_head-head.ensures))

pub overflow_cast-kept : goal.overflow_cast-kept
overflow_cast-kept c =
    let kept = c.functions_of-kept.ensures in
    let added = rw (c.table.ensures.value) at c.functions.ensures.count in
    let few-at = few c.requires.first.1 c.table.ensures.right kept added in
    omega (arith, few-at.0)

pub put_functions-requires-clause-count_bound : goal.put_functions-requires-clause-count_bound
put_functions-requires-clause-count_bound c =
    let kept = c.functions_of-kept.ensures in
    let added = rw (c.table.ensures.value) at c.functions.ensures.count in
    let few-at = few c.requires.first.1 c.table.ensures.right kept added in
    omega (arith, few-at.0)

pub put_functions-requires-clause-room : goal.put_functions-requires-clause-room
put_functions-requires-clause-room c =
    let F = c.requires.first.1 in
    let G = c.table.ensures.right in
    let version = c.version_of-version.ensures in
    let kept = c.functions_of-kept.ensures in
    let added = rw (c.table.ensures.value) at c.functions.ensures.count in
    let rest = file_rest F G c.requires.first.0 _ _ _ version (count_is_lem F G kept added) kept c.requires.room in
    rest_room (rest_more (rest_more rest _ _ refl c.put_head-head.ensures) _ _ refl c.put_stretch-place.ensures)

pub returns : goal.returns
returns c =
    let F = c.requires.first.1 in
    let G = c.table.ensures.right in
    let version = c.version_of-version.ensures in
    let kept = c.functions_of-kept.ensures in
    let added = rw (c.table.ensures.value) at c.functions.ensures.count in
    let rest = file_rest F G c.requires.first.0 _ _ _ version (count_is_lem F G kept added) kept c.requires.room in
    rest_last (rest_more (rest_more rest _ _ refl c.put_head-head.ensures) _ _ refl c.put_stretch-place.ensures) c.put_functions.ensures
