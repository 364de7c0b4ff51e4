use Rattle.target_file.proofs.loaded.LoadedCode.bytes.Goals as goal

pub returns-clause-accepted : goal.returns-clause-accepted
returns-clause-accepted c = rw (← c.self.view_is) c.self.invariant.is_accepted
