use Rattle.procedure_layout.proofs.LayoutLaws.{labelled_cut, labelled_in, before_bounds}
use Rattle.procedure_layout.specs.Layout.{block}
use Rattle.parsing.specs.Parser.{past_of}
use Rattle.parsing.specs.Fields.{version_of}
use Prim.Native.Nat.{ℕ, ◌+◌}
use mathlib.Core.Path.{sym, ap, ◌∙◌}
use native.Mathlib.Omega.{arith}
use Rattle.procedure_layout.proofs.layout.labelled_end.Goals as goal

pub returns-then-file-at : goal.returns-then-file-at
returns-then-file-at c = sym (labelled_cut _ _ c.if-file-at.true)

pub overflow_add-at : goal.overflow_add-at
overflow_add-at c =
    record { fits = omega (arith, c.bytes_before.ensures, before_bounds (version_of c.args.file.now)) }

pub returns : goal.returns
returns c =
    c.block_end.ensures
    ∙ ap (λ (n : ℕ). past_of (block c.args.file.now (c.args.at + n))) c.bytes_before.ensures
    ∙ sym (labelled_in _ _ c.if-file-at.false)
