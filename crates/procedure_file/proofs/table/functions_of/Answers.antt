use Rattle.procedure_file.proofs.TableLaws.{count_byte, count_inside}
use mathlib.Core.Path.{◌∙◌}
use Rattle.procedure_file.proofs.table.functions_of.Goals as goal

pub bounds-file-5 : goal.bounds-file-5
bounds-file-5 c = count_inside c.args.file.now c.requires

pub returns : goal.returns
returns c = c.from.ensures ∙ count_byte c.args.file.now c.requires
