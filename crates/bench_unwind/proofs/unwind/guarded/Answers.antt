use Rattle.std.proofs.Common.{◌≡◌, suc, ◌+◌, ◌-◌, arith, ◌∙◌}
use Rattle.bench_unwind.specs.GuardedLaws.{search_found, search_on, search_ends}
use Rattle.bench_unwind.proofs.unwind.guarded.Goals as goal

pub returns-then-h-ne0 : goal.returns-then-h-ne0
returns-then-h-ne0 c =
    let q : c.loop-d.d ≡ suc (c.loop-d.d - 1) = omega arith in
    let e : c.loop-d.d - 1 + 1 ≡ c.loop-d.d = omega arith in
    e ∙ search_found c.args.size c.args.words.now q c.head_at-h.ensures c.if-h-ne0.true ∙ c.loop-d.invariant

pub loop-d-preserved : goal.loop-d-preserved
loop-d-preserved c =
    let q : c.loop-d.d ≡ suc (c.loop-d.d - 1) = omega arith in
    search_on c.args.size c.args.words.now q c.head_at-h.ensures c.if-h-ne0.false ∙ c.loop-d.invariant

pub returns : goal.returns
returns c = search_ends c.args.size c.args.words.now (omega arith) ∙ c.loop-d.invariant
