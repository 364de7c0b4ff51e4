use Rattle.std.proofs.Common.{lit<}
use Rattle.translator.specs.PartLaws.{part_small, part_room, part_pair_room, part_zeros_room, part_block_room, part_wrote}
use Rattle.translator_bytes.proofs.LengthLaws.{length_zeros}
use mathlib.Core.Path.{refl}
use Rattle.translator.proofs.parts.put_part.Goals as goal

pub put-a-requires : goal.put-a-requires
put-a-requires c =
    (lit< tt, part_room c.args.file.now c.args.base c.args.p c.args.n c.args.u c.args.at c.requires.room)

pub put_pair-b-requires-clause-n_bound : goal.put_pair-b-requires-clause-n_bound
put_pair-b-requires-clause-n_bound c = rw c.from.ensures (part_small c.args.file.now c.args.base c.args.p c.args.n c.args.u c.args.at c.requires.room c.block_size-body.ensures)

pub put_pair-b-requires-clause-room : goal.put_pair-b-requires-clause-room
put_pair-b-requires-clause-room c = part_pair_room c.args.file.now c.args.base c.args.p c.args.n c.args.u c.args.at c.requires.room refl c.put-a.ensures

pub put_zeros-e-requires-clause-room : goal.put_zeros-e-requires-clause-room
put_zeros-e-requires-clause-room c = part_zeros_room c.args.file.now c.args.base c.args.p c.args.n c.args.u c.args.at c.requires.room refl c.put-a.ensures refl c.put_pair-b.ensures

pub put_block-requires-clause-room : goal.put_block-requires-clause-room
put_block-requires-clause-room c = part_block_room c.args.file.now c.args.base c.args.p c.args.n c.args.u c.args.at c.requires.room refl c.put-a.ensures refl c.put_pair-b.ensures
    (length_zeros _ _) c.put_zeros-e.ensures

pub returns : goal.returns
returns c =
    part_wrote c.args.file.now c.args.base c.args.p c.args.n c.args.u c.args.at c.requires.room
    c.block_size-body.ensures c.put-a.ensures (rw c.from.ensures at c.put_pair-b.ensures) c.put_zeros-e.ensures
    c.put_block.ensures
