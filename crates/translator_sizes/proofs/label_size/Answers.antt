use Rattle.translator_sizes.specs.PartLaws.{label_here, label_sized}
use Rattle.translator_sizes.proofs.label_size.Goals as goal

pub block_size-body-requires : goal.block_size-body-requires
block_size-body-requires c =
    rw (c.bytes.ensures.value) (label_here c.bytes.ensures.right c.args.f c.requires.f_in_bounds.0 c.args.l c.requires.f_in_bounds.1 _ c.fields_of-x.ensures)

pub returns : goal.returns
returns c =
    label_sized c.bytes.ensures.right c.args.f c.requires.f_in_bounds.0 c.args.l c.requires.f_in_bounds.1 _ c.fields_of-x.ensures _ _ c.from-n.ensures (rw (c.bytes.ensures.value) at c.block_size-body.ensures)
