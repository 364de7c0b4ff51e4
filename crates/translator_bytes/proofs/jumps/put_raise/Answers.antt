use Rattle.byte_writers.specs.WriteLaws.{room_less, room_behind, wrote_after}
use Rattle.translator_bytes.proofs.LengthLaws.{any_size}
use Rattle.translator_bytes.specs.Bytes.{if_any, size_if_any, raise_end, raise_bytes, raise_size}
use mathlib.Core.List.{[], ◌∷◌, ◌++◌}
use mathlib.Core.Path.{refl}
use native.Mathlib.Omega.{arith}
use Rattle.translator_bytes.proofs.jumps.put_raise.Goals as goal

pub put_zero_if_any-a-requires : goal.put_zero_if_any-a-requires
unfolding raise_size size_if_any
put_zero_if_any-a-requires c = room_less c.requires.room (omega arith)

pub returns : goal.returns
unfolding raise_bytes raise_size
returns c =
    let slot = c.args.u.bound in
    let zero = (1 ∷ slot ∷ []) ++ (0 ∷ 0 ∷ 0 ∷ 0 ∷ []) in
    wrote_after (if_any slot zero) (raise_end c.args.base c.args.u) c.requires.room (omega (arith, any_size slot zero refl)) c.put_zero_if_any-a.ensures c.put_raise_end.ensures

pub put_raise_end-requires-clause-room : goal.put_raise_end-requires-clause-room
unfolding raise_size if_any size_if_any
put_raise_end-requires-clause-room c = let slot = c.args.u.bound in
    room_behind _ c.requires.room c.put_zero_if_any-a.ensures (omega (arith, any_size slot ((1 ∷ slot ∷ []) ++ (0 ∷ 0 ∷ 0 ∷ 0 ∷ [])) refl))
