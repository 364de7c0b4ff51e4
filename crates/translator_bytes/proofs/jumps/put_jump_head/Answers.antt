use Rattle.byte_writers.specs.WriteLaws.{room_behind, wrote_after}
use Rattle.translator_bytes.specs.Bytes.{jump_head}
use Rattle.parsing.specs.Bytes.{pair_bytes}
use mathlib.Core.List.{[], ◌∷◌, ◌++◌}
use native.Mathlib.Omega.{arith}
use Rattle.translator_bytes.proofs.jumps.put_jump_head.Goals as goal

pub returns : goal.returns
unfolding jump_head
returns c =
    let slots = c.args.k ∷ c.args.h ∷ c.args.n ∷ [] in
    let R = room_behind 5 c.requires.room c.put-a.ensures (omega arith) in
    wrote_after (4 ∷ []) (pair_bytes c.args.g ++ slots) c.requires.room (omega arith) c.put-a.ensures
    (wrote_after (pair_bytes c.args.g) slots R (omega arith) c.put_pair-b.ensures c.put.ensures)
