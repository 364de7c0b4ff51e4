use Rattle.std.proofs.Common.{lit<}
use Rattle.translator.specs.FileLaws.{version_kept, mark_room, version_room, targets_room, functions_room, file_wrote}
use mathlib.Core.Path.{refl}
use Rattle.translator.proofs.parts.put_file.Goals as goal

pub put-a-requires : goal.put-a-requires
put-a-requires c =
    (lit< tt, mark_room c.args.file.now c.requires.room)

pub put-b-requires : goal.put-b-requires
put-b-requires c =
    (lit< tt, version_room c.args.file.now c.requires.room refl c.put-a.ensures)

pub put_pair-e-requires-clause-room : goal.put_pair-e-requires-clause-room
put_pair-e-requires-clause-room c = targets_room c.args.file.now c.requires.room refl c.put-a.ensures refl c.put-b.ensures

pub put_functions-requires-clause-room : goal.put_functions-requires-clause-room
put_functions-requires-clause-room c = functions_room c.args.file.now c.requires.room refl c.put-a.ensures refl c.put-b.ensures refl c.put_pair-e.ensures

pub returns : goal.returns
returns c =
    let version_is_lem = version_kept c.bytes.ensures.laid c.bytes.ensures.right (rw (c.bytes.ensures.value) at c.version_of-version.ensures) in
    file_wrote c.args.file.now c.requires.room version_is_lem (rw (c.table.ensures.value) at c.fill_numbers-targets.ensures.0) c.put-a.ensures c.put-b.ensures c.put_pair-e.ensures c.put_functions.ensures
