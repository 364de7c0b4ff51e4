use Rattle.translator_bytes.proofs.JumpLaws.{guarded_pair_room, guarded_jump_room, guarded_length_room, guarded_label_room, guarded_wrote}
use Rattle.translator_bytes.proofs.LengthLaws.{call_size_lem, head_size}
use mathlib.Core.Path.{refl}
use Rattle.procedure_operations.specs.Operation.{arguments_at}
use native.Mathlib.Omega.{arith}
use Rattle.translator_bytes.proofs.jumps.put_guarded_call.Goals as goal

pub returns : goal.returns
returns c =
    guarded_wrote c.args.base c.args.u c.args.x.0 c.args.g c.args.n
    (arguments_at c.args.file.now c.args.at c.args.n) c.slot_of-target.ensures (omega arith) (omega arith) c.requires.base_bound.5.long c.requires.room
    c.put_guarded_head-a.ensures c.put_pair-b.ensures c.put_call_jump-e.ensures c.put_pair-f.ensures
    c.put_label_jump.ensures

pub put_pair-b-requires-clause-room : goal.put_pair-b-requires-clause-room
put_pair-b-requires-clause-room c = guarded_pair_room c.args.u.number_slot c.args.n c.args.u.variables c.requires.room (head_size _ _ _ _) c.put_guarded_head-a.ensures

pub put_call_jump-e-requires-clause-room : goal.put_call_jump-e-requires-clause-room
put_call_jump-e-requires-clause-room c = guarded_jump_room c.args.u.number_slot c.args.n c.args.u.variables c.requires.room (head_size _ _ _ _) refl c.put_guarded_head-a.ensures c.put_pair-b.ensures

pub put_pair-f-requires-clause-room : goal.put_pair-f-requires-clause-room
put_pair-f-requires-clause-room c = guarded_length_room c.args.u.number_slot c.args.n c.args.u.variables c.requires.room (head_size _ _ _ _) refl c.put_guarded_head-a.ensures
    c.put_pair-b.ensures (call_size_lem _ _ _ _ _ c.requires.base_bound.5.long) c.put_call_jump-e.ensures

pub put_label_jump-requires-clause-room : goal.put_label_jump-requires-clause-room
put_label_jump-requires-clause-room c = guarded_label_room c.args.u.number_slot c.args.n c.args.u.variables c.requires.room (head_size _ _ _ _) refl c.put_guarded_head-a.ensures
    c.put_pair-b.ensures (call_size_lem _ _ _ _ _ c.requires.base_bound.5.long) c.put_call_jump-e.ensures refl c.put_pair-f.ensures
