use Rattle.procedure_file.proofs.TableLaws.{before_room}
use Rattle.procedure_lookup.proofs.LookupLaws.{find_entry, find_labelled}
use Prim.Native.Nat.{ℕ, ◌≤◌}
use mathlib.Core.Path.{◌≡◌}
use native.Mathlib.Omega.{arith}
use Rattle.procedure_lookup.proofs.find.Goals as goal

positive : {l : ℕ} → (l ≡ 0 → ⊥) → 1 ≤ l
positive h = omega arith

pub returns-then-l-eq0 : goal.returns-then-l-eq0
returns-then-l-eq0 c =
    find_entry c.args.file.now c.bytes-bytes.ensures.laid c.args.f c.args.l (omega (arith, c.functions-count.ensures.count, c.if-count-f.false))
    (omega (arith, c.if-labels-l.false, c.from-labels.ensures, c.labels_of.ensures)) _ _
    c.start_of-start.ensures (rw c.bytes-bytes.ensures.value at c.block_past-to.ensures) c.if-l-eq0.true

pub overflow_sub-from : goal.overflow_sub-from
overflow_sub-from c =
    let start = c.start_of-start.result in
    let before = c.bytes_before-before.result in
    let room : before ≤ start =
    before_room c.args.file.now c.bytes-bytes.ensures.laid c.args.f (omega (arith, c.functions-count.ensures.count, c.if-count-f.false)) c.args.l start before
    (positive c.if-l-eq0.false) (omega (arith, c.if-labels-l.false, c.from-labels.ensures, c.labels_of.ensures))
    c.start_of-start.ensures (rw c.bytes-bytes.ensures.value at c.bytes_before-before.ensures) in
    omega arith

pub returns : goal.returns
returns c =
    find_labelled c.args.file.now c.bytes-bytes.ensures.laid c.args.f c.args.l (omega (arith, c.functions-count.ensures.count, c.if-count-f.false))
    (omega (arith, c.if-labels-l.false, c.from-labels.ensures, c.labels_of.ensures)) _ _
    c.start_of-start.ensures (rw c.bytes-bytes.ensures.value at c.block_past-to.ensures) _ (rw c.bytes-bytes.ensures.value at c.bytes_before-before.ensures) c.if-l-eq0.false
