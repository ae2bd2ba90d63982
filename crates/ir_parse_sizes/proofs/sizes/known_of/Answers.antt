use Rattle.ir_parse_sizes.proofs.sizes.known_of.Goals as goal

pub returns-clause-known : goal.returns-clause-known
returns-clause-known c = c.each.invariant.known

pub returns-clause-small : goal.returns-clause-small
returns-clause-small c = c.each.invariant.small
