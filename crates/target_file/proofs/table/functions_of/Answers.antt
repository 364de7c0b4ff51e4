use mathlib.Core.Path.{◌∙◌}
use native.Mathlib.Omega.{arith}
use Rattle.target_file.proofs.LoadedCodeLaws.{passed}
use Rattle.target_file.proofs.table.functions_of.Goals as goal

pub bounds-file-5 : goal.bounds-file-5
bounds-file-5 c =
    let w = (passed c.args.file.now c.requires).file.whole in omega arith

pub bounds-file-6 : goal.bounds-file-6
bounds-file-6 c =
    let w = (passed c.args.file.now c.requires).file.whole in omega arith

pub returns : goal.returns
returns c =
    c.pair.ensures ∙ (passed c.args.file.now c.requires).file.counted
