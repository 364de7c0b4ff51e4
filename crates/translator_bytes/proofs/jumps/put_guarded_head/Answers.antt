use Rattle.byte_writers.specs.WriteLaws.{wrote_after}
use Rattle.translator_bytes.specs.Bytes.{if_any, guarded_head}
use mathlib.Core.List.{[], ◌∷◌}
use native.Mathlib.Omega.{arith}
use Rattle.translator_bytes.proofs.jumps.put_guarded_head.Goals as goal

pub returns : goal.returns
unfolding guarded_head
returns c =
    wrote_after (9 ∷ c.args.k ∷ c.args.target ∷ c.args.t ∷ []) (if_any c.args.number (c.args.number ∷ [])) c.requires (omega arith) c.put-a.ensures c.put_slot_if_any.ensures
