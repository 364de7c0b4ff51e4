use borrow.Author.Rules.{rules}
use Rattle.target_file.proofs.LoadedCodeLaws.{in_table}
use Rattle.target_file.proofs.loaded.LoadedCode.start_of.Goals as goal

pub offset_bounds-starts-g : goal.offset_bounds-starts-g
offset_bounds-starts-g c =
    let h = in_table (rw c.self.view_is at c.self.invariant) c.requires in search rules

pub bounds-starts-g : goal.bounds-starts-g
bounds-starts-g c = in_table (rw c.self.view_is at c.self.invariant) c.requires

pub returns-clause-start : goal.returns-clause-start
returns-clause-start c = rw (← c.self.view_is) (rw (← c.self.invariant.table) c.from.ensures)

pub returns-clause-accepted : goal.returns-clause-accepted
returns-clause-accepted c = rw (← c.self.view_is) c.self.invariant.is_accepted
