use Rattle.std.proofs.Common.{arith}
use Rattle.target_parts.specs.PartsLaws.{pair_cut, pair_whole}
use Rattle.target_parts.proofs.parts.size_at.Goals as goal
use Rattle.target_parts.proofs.parts.size_at.Goals.{else-at-file-via-then-at-file+else-at-file-2, else-at-file-via-else-at-file}

pub returns-then-at-file-2 : goal.returns-then-at-file-2
returns-then-at-file-2 c = pair_whole _ _ _ (omega arith) c.pair.ensures

pub returns : goal.returns
returns c = pair_cut _ _ (omega arith)
