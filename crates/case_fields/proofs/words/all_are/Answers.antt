use native.Mathlib.Omega.{arith}
use mathlib.Core.Path.{sym, ap, ◌∙◌}
use lib.IntN.{ℤ, pos}
use lib.ListN.{get_or}
use mir.Syntax.{w32}
use mir.Val.{SFits, to_z, of_z}
use mir.Facts.{to_z-of_z}
use borrow.Author.Rules.{rules}
use Rattle.case_fields.specs.Words.{every}
use Rattle.case_fields.specs.WordLaws.{other_word, same_word, no_word}
use Rattle.case_fields.proofs.words.all_are.Goals as goal

pub returns-then-w-x : goal.returns-then-w-x
returns-then-w-x c =
    let l = c.loop-w in
    let e = to_z-of_z {w = w32} c.ranges.x in
    let n = c.if-w-x.true in
    other_word (to_z w32 (of_z w32 c.args.x)) c.args.words.now l.w-index l.invariant (omega arith) (λ q. n (ap (of_z w32) (q ∙ e))) ∙ ap (λ (z : ℤ). every z c.args.words.now) e

pub loop-w-preserved : goal.loop-w-preserved
loop-w-preserved c =
    let l = c.loop-w in
    let f : SFits w32 (get_or c.args.words.now l.w-index (pos 0)) = search rules in
    same_word (to_z w32 (of_z w32 c.args.x)) c.args.words.now l.w-index l.invariant (omega arith) (sym (to_z-of_z {w = w32} f) ∙ ap (to_z w32) c.if-w-x.false)

pub returns : goal.returns
returns c =
    let l = c.loop-w in
    no_word (to_z w32 (of_z w32 c.args.x)) c.args.words.now l.w-index l.invariant (omega arith) ∙ ap (λ (z : ℤ). every z c.args.words.now) (to_z-of_z {w = w32} c.ranges.x)
