use mathlib.Core.Path.{◌∙◌}
use Rattle.target_file.proofs.LoadedCodeLaws.{own_table, params_stand}
use Rattle.target_file.proofs.loaded.LoadedCode.params_of.Goals as goal

pub overflow_sub-at : goal.overflow_sub-at
overflow_sub-at c = (params_stand (own_table c.bytes-file.ensures.accepted) c.requires c.start_of-at.ensures.start).0

pub bounds-file-at : goal.bounds-file-at
bounds-file-at c = rw c.bytes-file.ensures.value (params_stand (own_table c.bytes-file.ensures.accepted) c.requires c.start_of-at.ensures.start).1

pub returns : goal.returns
returns c =
    c.from.ensures ∙ rw c.bytes-file.ensures.value (params_stand (own_table c.bytes-file.ensures.accepted) c.requires c.start_of-at.ensures.start).2
