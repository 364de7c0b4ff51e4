use mathlib.Core.Path.{refl}
use Rattle.report.specs.ReportLaws.{no_byte, no_header, with_header, wrote_as}
use Rattle.report.proofs.report.Goals as goal

pub returns-then-input-lt1-clause-text : goal.returns-then-input-lt1-clause-text
returns-then-input-lt1-clause-text c = wrote_as (no_byte c.args.input.now c.if-input-lt1.true) c.write_no_header.ensures

pub returns-then-input-header-clause-text : goal.returns-then-input-header-clause-text
returns-then-input-header-clause-text c = wrote_as (no_header c.args.input.now (rw c.from-n.ensures at c.if-input-header.true)) c.write_no_header-then-input-header.ensures

pub returns-clause-text : goal.returns-clause-text
returns-clause-text c = wrote_as (with_header c.args.input.now (rw c.from-n.ensures at c.if-input-header.false) refl (rw c.from-n.ensures at c.fill.ensures) (rw c.from-n.ensures at c.pair-depth.ensures) (rw c.from-n.ensures at c.word-budget.ensures)) (rw c.from-n.ensures at c.write_file.ensures)
