use native.Mathlib.Omega.{arith}
use Rattle.decimal.specs.DecimalLaws.{wrote_word}
use Rattle.decimal.proofs.put_bytes.Goals as goal

pub returns : goal.returns
returns c =
    let x = c.copy_from_slice.ensures in
    wrote_word c.args.at _ _ c.args.word.now c.args.out.now c.requires (omega arith) x.after x.len
