use Rattle.lto_fault.proofs.line.push_symbol.Goals as goal

pub returns-clause-pushed : goal.returns-clause-pushed
returns-clause-pushed g c = c.push_named.ensures.pushed
