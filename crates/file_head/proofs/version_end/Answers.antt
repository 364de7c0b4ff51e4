use Rattle.file_head.specs.HeadLaws.{version_short, version_other, version_right}
use Rattle.parsing.specs.Parser.{past_of}
use mathlib.Core.Path.{ap, sym}
use native.Mathlib.Omega.{arith}
use Rattle.std.proofs.Common.{◌+◌, ◌*◌, get_or}
use Rattle.parsing.specs.Fields.{IsVersion}
use Rattle.file_head.proofs.version_end.Goals as goal
use Rattle.file_head.proofs.version_end.Goals.{then-file-at-lt1-via-then-file-at-lt1, then-file-at-lt1-via-else-file-at-lt1+then-file-at-gt2, then-file-at-lt1-via-else-file-at-lt1+else-file-at-gt2+then-file-at-ne0}

pub returns-then-n-at : goal.returns-then-n-at
returns-then-n-at c = ap past_of (sym (version_short _ _ (omega arith)))

pub returns-then-n-past : goal.returns-then-n-past
returns-then-n-past c = ap past_of (sym (version_short _ _ (omega arith)))

pub returns-then-file-at-lt1 : goal.returns-then-file-at-lt1
returns-then-file-at-lt1 c =
    ap past_of (sym (version_other _ _ (omega arith) other))
  where
    other : IsVersion (get_or c.args.file.now c.args.at 0 + 256 * get_or c.args.file.now (c.args.at + 1) 0) → ⊥
    other v =
        elim c.then-file-at-lt1.branch [
          | then-file-at-lt1-via-then-file-at-lt1 w ↦ omega (arith, v.0, v.1, w.if-file-at-lt1.true)
          | then-file-at-lt1-via-else-file-at-lt1+then-file-at-gt2 w ↦ omega (arith, v.0, v.1, w.if-file-at-gt2.true)
          | then-file-at-lt1-via-else-file-at-lt1+else-file-at-gt2+then-file-at-ne0 w ↦ w.if-file-at-ne0.true (omega (arith, v.0, v.1))
        ]

pub returns : goal.returns
returns c = ap past_of (sym (version_right _ _ (omega arith) (omega arith, omega arith)))
