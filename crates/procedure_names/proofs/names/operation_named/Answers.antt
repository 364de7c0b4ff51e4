use Rattle.procedure_names.specs.NamedLaws.{by_form, past_names, call_room}
use mathlib.Core.Path.{sym, ◌∙◌}
use Rattle.procedure_names.proofs.names.operation_named.Goals as goal

pub returns-then-file-at : goal.returns-then-file-at
returns-then-file-at c =
    by_form c.args.params.now c.args.variables c.args.labels c.args.file.now c.args.at c.args.o _ _ c.requires
    (past_names c.args.params.now c.args.variables c.args.labels c.args.file.now c.args.at c.if-file-at.true)

pub call_named-requires : goal.call_named-requires
call_named-requires c =
    call_room c.args.file.now c.args.at _ _ _ _ (sym c.requires ∙ c.in-Call.is)
