use Rattle.std.proofs.Common.{◌∙◌}
use Rattle.procedure_file.specs.Places.{receiver_of}
use Rattle.bench_frames.specs.Machine.{function_at}
use Rattle.bench_frames.specs.StateLaws.{vars_bound}
use Rattle.bench_unwind.specs.EnterLaws.{none_received, receiver_index}
use Rattle.bench_unwind.proofs.unwind.receive.Goals as goal

pub returns-then-x-eq255 : goal.returns-then-x-eq255
returns-then-x-eq255 c =
    let F = c.table.ensures.right in
    let q = receiver_of (function_at c.args.file.now c.args.f) c.args.l in
    let w = F.receiver c.args.f c.args.l c.requires.f_in_bounds.0 c.requires.f_in_bounds.1.1 in
    let v = vars_bound F c.requires.f_in_bounds.0 in
    let e = c.from-x.ensures ∙ rw c.table.ensures.value at c.receiver_of.ensures in
    none_received q w v e c.args.number c.args.vars.now c.if-x-eq255.true

pub bounds-vars-x : goal.bounds-vars-x
bounds-vars-x c =
    let F = c.table.ensures.right in
    let q = receiver_of (function_at c.args.file.now c.args.f) c.args.l in
    let w = F.receiver c.args.f c.args.l c.requires.f_in_bounds.0 c.requires.f_in_bounds.1.1 in
    let v = vars_bound F c.requires.f_in_bounds.0 in
    let e = c.from-x.ensures ∙ rw c.table.ensures.value at c.receiver_of.ensures in
    receiver_index q w v e c.args.number c.args.vars.now c.if-x-eq255.false
